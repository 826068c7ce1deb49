-- How a run came out after so many steps.
use Rattle.std.specs.Prelude.{◌≡◌, ℕ, ◌+◌, ◌<◌, ◌≤◌, List, length, take, drop, ℤ}
use Rattle.program.specs.Program.{Prog, total}
use Rattle.program.specs.Runs.{State, Run, on, stopped, fails, steps, begin}
use Rattle.table.specs.Tables.{Table}
use Rattle.table.specs.Licences.{tests}
use Rattle.interpreter.specs.declared.ran.Ran.{Ran}
use Rattle.interpreter.specs.declared.ran.Ran.TheVariants.{Stopped, Failed, More, BadTable, Unread, OutFull, Small}

-- the numbers that a run has shown
abbrev pub shown_by : Run → List ℤ
shown_by (on x) = x.shown
shown_by (stopped x) = x.shown
shown_by (fails a x) = x.shown

-- the answer for a run that did so many tests
abbrev pub answer_of : Run → ℕ → Ran
answer_of (on x) c = More (length x.shown) c
answer_of (stopped x) c = Stopped (length x.shown) c
answer_of (fails a x) c = Failed a (length x.shown) c

-- n steps, with q handed in, end so: o and o' are the room for what is shown, before and after
pub record Ends (p : Prog) (t : Table) (q : List ℤ) (n : ℕ) (o o' : List ℤ) (r : Ran) : Type 0 where
  pub answer : r ≡ answer_of (steps n p (begin p q)) (tests n p t (begin p q))
  pub shown : take (length (shown_by (steps n p (begin p q)))) o' ≡ shown_by (steps n p (begin p q))
  pub rest : drop (length (shown_by (steps n p (begin p q)))) o' ≡ drop (length (shown_by (steps n p (begin p q)))) o

-- more is shown than there is room for
abbrev pub Overflows : Prog → List ℤ → ℕ → ℕ → Type 0
Overflows p q n room = (m : ℕ) × (x : State) × (m ≤ n) × (steps m p (begin p q) ≡ on x) × (room < length x.shown)

-- what came of a run: its end, or no more room
abbrev pub Came : Prog → Table → List ℤ → ℕ → List ℤ → List ℤ → Ran → Type 0
Came p t q n o o' (Stopped k c) = Ends p t q n o o' (Stopped k c)
Came p t q n o o' (Failed a k c) = Ends p t q n o o' (Failed a k c)
Came p t q n o o' (More k c) = Ends p t q n o o' (More k c)
Came p t q n o o' OutFull = Overflows p q n (length o)
Came p t q n o o' BadTable = ⊥
Came p t q n o o' Unread = ⊥
Came p t q n o o' Small = ⊥

-- the work numbers that a program wants
abbrev pub needs : Prog → ℕ
needs p = 256 + (length p.code + total p.arrays)
