-- Licences: tests that a table shows can't fail.
use Rattle.std.specs.Prelude.{◌≡◌, ℕ, zero, suc, ◌+◌, Bool, true, false, cond, T, List, [], ◌∷◌, ℤ, Some, None, Option}
use Rattle.std.specs.List.{slice_get, AllByRecursion}
use Rattle.number.specs.Numbers.{le_z, in64}
use Rattle.program.specs.declared.Step.{Step}
use Rattle.program.specs.Program.{Prog}
use Rattle.program.specs.Rows.{Program}
use Rattle.program.specs.Runs.{State, Run, on, stopped, fails, has_test, step, steps, begin}
use Rattle.interval.specs.Ranges.{Box, At, never, within, AtLeast}
use Rattle.interval.specs.Tests.{sure}
use Rattle.interval.specs.Laws.{ProperAt}
use Rattle.table.specs.Tables.{Table, at, words_of, Holds}

-- nothing comes there, or the test can't fail
abbrev pub sure_at : ℕ → At → Step → Bool
sure_at n never i = true
sure_at n (within b) i = sure n b i

abbrev pub licensed_step : Prog → Table → ℕ → Option Step → Bool
licensed_step p t n None = true
licensed_step p t n (Some i) = sure_at (words_of p i) (at t n) i

abbrev pub licensed : Prog → Table → ℕ → Bool
licensed p t n = licensed_step p t n (slice_get p.code n)

-- the tests that a run does: one for each step made, or tried, that has a test and no licence
abbrev pub tested_at : Option Step → Bool
tested_at None = false
tested_at (Some i) = has_test i

abbrev pub tests1 : Prog → Table → Run → ℕ
tests1 p t (on s) = cond (licensed p t s.at) 0 (cond (tested_at (slice_get p.code s.at)) 1 0)
tests1 p t (stopped s) = 0
tests1 p t (fails a s) = 0

abbrev pub tests : ℕ → Prog → Table → Run → ℕ
tests zero p t r = 0
tests (suc n) p t r = tests1 p t r + tests n p t (step p r)

-- the variables lie in their ranges
abbrev pub InRange : Box → List ℤ → Type 0
InRange [] [] = Unit {0}
InRange [] (v ∷ vs) = ⊥
InRange (r ∷ b) [] = ⊥
InRange (r ∷ b) (v ∷ vs) = T (le_z r.lo v) × T (le_z v r.hi) × InRange b vs

abbrev pub TrueOf : Table → State → Type 0
TrueOf t s = (b : Box) × (at t s.at ≡ within b) × InRange b s.vars

-- whatever a table that holds says is true of every state that a run reaches
abbrev pub TablesTrue : Type 0
TablesTrue = (s : List ℤ) (p : Prog) (t : Table) (asked : List ℤ) (n : ℕ) (x : State) → Program s p → Holds p t → AllByRecursion (λ z. T (in64 z)) asked → steps n p (begin p asked) ≡ on x → TrueOf t x

-- a licensed test never fails
abbrev pub NeverFails : Type 0
NeverFails = (s : List ℤ) (p : Prog) (t : Table) (asked : List ℤ) (n a : ℕ) (x : State) → Program s p → Holds p t → AllByRecursion (λ z. T (in64 z)) asked → steps n p (begin p asked) ≡ fails a x → licensed p t a ≡ false

-- a table that knows more, with proper ranges, licenses whatever the other does
abbrev pub MoreLicences : Type 0
MoreLicences = (p : Prog) (t u : Table) (n : ℕ) → AtLeast (at t n) (at u n) → ProperAt (at t n) → licensed p u n ≡ true → licensed p t n ≡ true
