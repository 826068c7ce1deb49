use Rattle.std.proofs.Common.{◌≡◌, ◌-◌, ◌≤◌}
use Rattle.program.specs.Program.{counts_of}
use Rattle.fixpoint.specs.Confirming.{sweeps_of}
use Rattle.fixpoint.specs.Joining.{table_in}
use Rattle.fixpoint.proofs.guess.confirm.Given as goal

-- the sweeps so far have made the table that is moved
abbrev pub invariant-loop-counts : goal.invariant-loop-counts
invariant-loop-counts l =
    let k = counts_of l.program in
    (l.sweeps ≤ l.limit) × (table_in k l.moved ≡ sweeps_of l.sweeps l.program (table_in k l.guess) (table_in k l.table))

abbrev pub decreases-loop-counts : goal.decreases-loop-counts
decreases-loop-counts l = l.limit - l.sweeps
