-- Programs. Steps and operands are the code's own enums.
use Rattle.std.specs.Prelude.{ℕ, ◌+◌, List, [], ◌∷◌, length}
use Rattle.program.specs.declared.step.Step.{Step}
use Rattle.program.specs.declared.reader.Counts.{Counts}

-- so many variables, arrays of these lengths, and the steps
pub record Prog : Type 0 where
  pub vars : ℕ
  pub arrays : List ℕ
  pub code : List Step

abbrev pub total : List ℕ → ℕ
total [] = 0
total (n ∷ ns) = n + total ns

abbrev pub counts_by : ℕ → List ℕ → ℕ → Counts
counts_by vars arrays steps = record { vars = vars; arrays = length arrays; words = total arrays; steps = steps }

abbrev pub counts_of : Prog → Counts
counts_of p = counts_by p.vars p.arrays (length p.code)

-- the place that comes next, and the steps from it on
pub record Ahead : Type 0 where
  pub place : ℕ
  pub steps : List Step
