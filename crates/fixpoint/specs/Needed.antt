-- A loop of two steps that shows what confirming a guess must ask for: x = 1, and back to the start.
use Rattle.std.specs.Prelude.{ℕ, T, [], ◌∷◌, pos}
use Rattle.program.specs.declared.Step.{Step}
use Rattle.program.specs.declared.Step.TheVariants.{Set, Go}
use Rattle.program.specs.declared.Operand.TheVariants.{Num}
use Rattle.program.specs.Program.{Prog}
use Rattle.program.specs.Rows.{row_p, Program}
use Rattle.interval.specs.Ranges.{At, never, within}
use Rattle.table.specs.Tables.{Table, Holds}
use Rattle.table.specs.Cases.{between}
use Rattle.fixpoint.specs.Growth.{GrowsT}
use Rattle.fixpoint.specs.Least.{Below, ProperT}
use Rattle.fixpoint.specs.Confirming.{sweeps_of, reached, Confirms}

abbrev pub one : Step
one = Set (record { 0 = 0 }) (Num (pos 1))

abbrev pub go : Step
go = Go (record { 0 = 0 })

abbrev pub back : Prog
back = record { vars = 1; arrays = []; code = one ∷ go ∷ [] }

-- 0..n at the start, 1 at the second step, and what is known behind it
abbrev from : ℕ → At → Table
from n a = within (between 0 n) ∷ within (between 1 1) ∷ a ∷ []

-- before the way back is taken, and the least table
abbrev pub early : Table
early = from 0 never

abbrev pub least_table : Table
least_table = from 1 never

-- guesses that are wrong
abbrev pub too_wide : Table
too_wide = from 2 never

abbrev pub behind : Table
behind = from 0 (within (between 1 1))

pub record Needed : Type 0 where
  pub program : Program (row_p back) back
  pub holds : Holds back least_table
  pub below : Below back least_table
  pub early_below : Below back early
  pub proper : ProperT early
  pub right : Confirms back early least_table 1
  -- The least table has moved each end at which the guess is wider by 1. So that is not enough: confirming may move an end only if the hop
  -- makes of the guess as much as the guess has.
  pub moved : T (reached early too_wide least_table)
  pub wrong_wide : Below back too_wide → ⊥
  -- Each end that is known at first is reached after a sweep. So that is not enough either: the guess must be never at the same places.
  pub grown : GrowsT 1 early behind (sweeps_of 1 back behind early)
  pub wrong_behind : Below back behind → ⊥
