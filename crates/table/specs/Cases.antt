-- A worked loop: a[v] = v for v from 0 to 7, its table, and tables that are not as good.
use Rattle.std.specs.Prelude.{◌≡◌, ℕ, true, List, [], ◌∷◌, length, ℤ, pos}
use Rattle.program.specs.declared.Step.{Step}
use Rattle.program.specs.declared.Step.TheVariants.{Add, Store, Go, Less, Stop}
use Rattle.program.specs.declared.Operand.{Operand}
use Rattle.program.specs.declared.Operand.TheVariants.{Num, Var}
use Rattle.program.specs.Program.{Prog}
use Rattle.program.specs.Rows.{row_p, Program}
use Rattle.program.specs.Runs.{State, on, stopped, steps, begin}
use Rattle.interval.specs.declared.Way.TheVariants.{Jump, Next}
use Rattle.interval.specs.Ranges.{Box, never, within, makes, AtLeast}
use Rattle.interval.specs.Laws.{anys}
use Rattle.table.specs.Tables.{Table, at, Holds}
use Rattle.table.specs.Licences.{licensed, tests}

abbrev v : Operand
v = Var (record { 0 = 0 })

-- to the body while v < 8
abbrev pub test : Step
test = Less v (Num (pos 8)) (record { 0 = 2 })

abbrev pub fill : Prog
fill = record {
  vars = 1;
  arrays = 8 ∷ [];
  code =
      test
      ∷ Stop
      ∷ Store (record { 0 = 0 }) v v
      ∷ Add (record { 0 = 0 }) v (Num (pos 1))
      ∷ Go (record { 0 = 0 })
      ∷ [];
}

-- the one variable lies in m..n
abbrev pub between : ℕ → ℕ → Box
between m n = record { lo = pos m; hi = pos n } ∷ []

-- what is known at the places behind the first
abbrev behind : Table
behind = within (between 8 8) ∷ within (between 0 7) ∷ within (between 0 7) ∷ within (between 1 8) ∷ never ∷ []

abbrev pub fill_table : Table
fill_table = within (between 0 8) ∷ behind

abbrev pub narrow : Table
narrow = within (between 0 7) ∷ behind

pub record Worked : Type 0 where
  pub numbers : length (row_p fill) ≡ 25
  pub program : Program (row_p fill) fill
  pub holds : Holds fill fill_table
  -- what the test makes of 0..8
  pub less : makes 0 Jump test (between 0 8) ≡ within (between 0 7)
  pub not_less : makes 0 Next test (between 0 8) ≡ within (between 8 8)
  -- knowing nothing holds, and this table knows more
  pub more : AtLeast (within (anys 1)) (at fill_table 0) → ⊥
  -- both tests are licensed
  pub store_licensed : licensed fill fill_table 2 ≡ true
  pub add_licensed : licensed fill fill_table 3 ≡ true
  -- whatever is handed in, 34 steps stop it, 33 don't, and no test is done in them
  pub stops : (asked : List ℤ) → (x : State) × (steps 34 fill (begin fill asked) ≡ stopped x)
  pub goes_on : (asked : List ℤ) → (x : State) × (steps 33 fill (begin fill asked) ≡ on x)
  pub no_tests : (asked : List ℤ) → tests 34 fill fill_table (begin fill asked) ≡ 0
  -- 8 comes back to the first place
  pub too_narrow : Holds fill narrow → ⊥
