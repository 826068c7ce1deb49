-- What one step does to lent memory.
use Rattle.std.specs.Prelude.{◌≡◌, ℕ, ◌+◌, ◌<◌, ◌≤◌, Bool, true, List, length, drop, ℤ, pos, ◌+ℤ◌, ◌-ℤ◌, ◌*ℤ◌, Some, None, Option, T, slice_index_or}
use Rattle.number.specs.Numbers.{in64}
use Rattle.program.specs.declared.Step.{Step}
use Rattle.program.specs.declared.Step.TheVariants.{Set, Add, Sub, Mul, Load, Store, Ask, Show, Go, Less, Stop}
use Rattle.program.specs.declared.Place.{Place}
use Rattle.program.specs.Program.{Prog, counts_of}
use Rattle.program.specs.Rows.{ok_i}
use Rattle.program.specs.Runs.{State, on, stopped, fails, value, words, index_of, index, act}
use Rattle.machine.specs.declared.cursor.Cursor.{Cursor}
use Rattle.machine.specs.declared.cursor.Outcome.{Outcome}
use Rattle.machine.specs.declared.cursor.Outcome.TheVariants.{On, Stopped, Failed, Full}
use Rattle.machine.specs.Layout.{state_of, Laid}

-- the length of an array as the rows have it, and where the array begins
abbrev pub words_at : List ℤ → ℕ → ℕ
words_at s a = index (slice_index_or s (2 + a) (pos 0))

abbrev pub start_at : List ℤ → ℕ → ℕ
start_at s a = index (slice_index_or s a (pos 0))

-- the array is one, and the number one of its indices if it is sure to be
pub record Stands (s st : List ℤ) (sure : Bool) (a : ℕ) (i : ℤ) : Type 0 where
  pub there : 2 + a < length s
  pub begun : a < length st
  pub start : slice_index_or st a (pos 0) ≡ pos (start_at st a)
  pub fits : sure ≡ true → index_of (words_at s a) i ≡ true

-- at another place; at the next; what comes of a test
abbrev pub to : Cursor → Place → Cursor
to c t = record { place = t.0; taken = c.taken; count = c.count }

abbrev pub onward : Cursor → Cursor
onward c = record { place = c.place + 1; taken = c.taken; count = c.count }

abbrev pub settled : Cursor → Option (Unit {0}) → Outcome
settled c (Some passed) = On (onward c)
settled c None = Failed

-- whether the test of a step passes; one that has none does
abbrev pub passes : Prog → State → Step → Bool
passes p s (Set x e) = true
passes p s (Add x e f) = in64 (value s.vars e +ℤ value s.vars f)
passes p s (Sub x e f) = in64 (value s.vars e -ℤ value s.vars f)
passes p s (Mul x c e) = in64 (c *ℤ value s.vars e)
passes p s (Load x a e) = index_of (words p a.0) (value s.vars e)
passes p s (Store a e f) = index_of (words p a.0) (value s.vars e)
passes p s (Ask x) = true
passes p s (Show e) = true
passes p s (Go t) = true
passes p s (Less e f t) = true
passes p s Stop = true

-- where a step can be done: memory is laid out for the program, the step is one of it and at a place of a step, and its test
-- passes if it is sure
pub record Ready (p : Prog) (c : Cursor) (st vs m q o : List ℤ) (sure : Bool) (i : Step) : Type 0 where
  pub laid : Laid p st vs m
  pub here : c.place < length p.code
  pub taken : c.taken ≤ length q
  pub count : c.count ≤ length o
  pub names : T (ok_i (counts_of p) i)
  pub passes : sure ≡ true → passes p (state_of p.arrays c vs m q o) i ≡ true

-- the step does what the program does: vs, m and o are the variables, the arrays and the room for what is shown before it,
-- vs', m' and o' after it, q the numbers handed in
abbrev pub Acted : Prog → Cursor → List ℤ → List ℤ → List ℤ → List ℤ → Step → Outcome → List ℤ → List ℤ → List ℤ → Type 0
Acted p c vs m q o i (On c') vs' m' o' = act p (state_of p.arrays c vs m q o) i ≡ on (state_of p.arrays c' vs' m' q o')
Acted p c vs m q o i Stopped vs' m' o' = act p (state_of p.arrays c vs m q o) i ≡ stopped (state_of p.arrays c vs m q o)
Acted p c vs m q o i Failed vs' m' o' = act p (state_of p.arrays c vs m q o) i ≡ fails c.place (state_of p.arrays c vs m q o)
Acted p c vs m q o i Full vs' m' o' = (x : State) × (act p (state_of p.arrays c vs m q o) i ≡ on x) × (length o < length x.shown)

-- where the run is then, and that the rest of the room is as it was
pub record Moved1 (p : Prog) (c c' : Cursor) (q o o' : List ℤ) : Type 0 where
  pub place : c'.place ≤ length p.code
  pub taken : c'.taken ≤ length q
  pub count : c'.count ≤ length o'
  pub rest : (u : List ℤ) → drop c.count o ≡ drop c.count u → drop c'.count o' ≡ drop c'.count u

abbrev pub Moved : Prog → Cursor → List ℤ → List ℤ → Outcome → List ℤ → Type 0
Moved p c q o (On c') o' = Moved1 p c c' q o o'
Moved p c q o Stopped o' = o' ≡ o
Moved p c q o Failed o' = o' ≡ o
Moved p c q o Full o' = Unit {0}
