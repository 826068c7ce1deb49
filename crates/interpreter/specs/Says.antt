-- What a run promises, with the theorems that hold of it.
use Rattle.std.specs.Prelude.{◌≡◌, ℕ, ◌<◌, ◌≤◌, ◌↔◌, List, length, take, drop, ℤ}
use Rattle.program.specs.Program.{Prog}
use Rattle.program.specs.Rows.{Program}
use Rattle.program.specs.Says.{OneProgram}
use Rattle.program.specs.Runs.{State, on, stopped, fails, steps, begin}
use Rattle.table.specs.Tables.{Table, Holds}
use Rattle.table.specs.Rows.{row_t}
use Rattle.table.specs.Licences.{tests, TablesTrue, NeverFails}
use Rattle.table.specs.Says.{OneTable, LookingOnce}
use Rattle.interpreter.specs.declared.ran.Ran.{Ran}
use Rattle.interpreter.specs.declared.ran.Ran.TheVariants.{Stopped, Failed, More, BadTable, Unread, OutFull, Small}
use Rattle.interpreter.specs.Ending.{answer_of, Overflows, needs}

-- the rows of a program, a table, the numbers handed in, n steps at most; o and o' are the room for what is shown, before and
-- after
abbrev pub RanSays : List ℤ → List ℤ → List ℤ → ℕ → List ℤ → List ℤ → Ran → Type 0
RanSays s l asked n o o' (Stopped k c) = (p : Prog) × (t : Table) × (x : State) × Program s p × (row_t p.vars t ≡ l) × Holds p t × (steps n p (begin p asked) ≡ stopped x) × (k ≡ length x.shown) × (take k o' ≡ x.shown) × (drop k o' ≡ drop k o) × (c ≡ tests n p t (begin p asked))
RanSays s l asked n o o' (Failed a k c) = (p : Prog) × (t : Table) × (x : State) × Program s p × (row_t p.vars t ≡ l) × Holds p t × (steps n p (begin p asked) ≡ fails a x) × (k ≡ length x.shown) × (take k o' ≡ x.shown) × (drop k o' ≡ drop k o) × (c ≡ tests n p t (begin p asked))
RanSays s l asked n o o' (More k c) = (p : Prog) × (t : Table) × (x : State) × Program s p × (row_t p.vars t ≡ l) × Holds p t × (steps n p (begin p asked) ≡ on x) × (k ≡ length x.shown) × (take k o' ≡ x.shown) × (drop k o' ≡ drop k o) × (c ≡ tests n p t (begin p asked))
RanSays s l asked n o o' BadTable = (p : Prog) × Program s p × ((t : Table) → row_t p.vars t ≡ l → Holds p t → ⊥) × (o' ≡ o)
RanSays s l asked n o o' Unread = ((p : Prog) → Program s p → ⊥) × (o' ≡ o)
RanSays s l asked n o o' OutFull = (p : Prog) × (t : Table) × (m : ℕ) × (x : State) × Program s p × (row_t p.vars t ≡ l) × Holds p t × (m ≤ n) × (steps m p (begin p asked) ≡ on x) × (length o < length x.shown)
RanSays s l asked n o o' Small = o' ≡ o

pub record Parts : Type 0 where
  pub one_program : OneProgram
  pub one_table : OneTable
  pub looking_once : LookingOnce
  pub tables_true : TablesTrue
  pub never_fails : NeverFails

-- w is how many work numbers were lent
pub record RanPost (s l asked : List ℤ) (n : ℕ) (o o' : List ℤ) (w : ℕ) (r : Ran) : Type 0 where
  pub says : RanSays s l asked n o o' r
  -- each answer exactly under its condition
  pub unread : ((p : Prog) → Program s p → ⊥) ↔ (r ≡ Unread)
  pub small : ((p : Prog) × Program s p × (w < needs p)) ↔ (r ≡ Small)
  pub bad_table : ((p : Prog) × Program s p × (needs p ≤ w) × ((t : Table) → row_t p.vars t ≡ l → Holds p t → ⊥)) ↔ (r ≡ BadTable)
  pub out_full : ((p : Prog) × (t : Table) × Program s p × (needs p ≤ w) × (row_t p.vars t ≡ l) × Holds p t × Overflows p asked n (length o)) ↔ (r ≡ OutFull)
  pub else : (p : Prog) (t : Table) → Program s p → needs p ≤ w → row_t p.vars t ≡ l → Holds p t → (Overflows p asked n (length o) → ⊥) → r ≡ answer_of (steps n p (begin p asked)) (tests n p t (begin p asked))
  pub parts : Parts
