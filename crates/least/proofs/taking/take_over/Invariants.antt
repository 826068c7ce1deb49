use Rattle.std.proofs.Common.{◌≡◌}
use Rattle.fixpoint.specs.Confirming.{Over}
use Rattle.fixpoint.specs.Joining.{table_in, Writes}
use Rattle.least.proofs.Mixed.{mixed}
use Rattle.least.proofs.taking.take_over.Given as goal

-- the places so far are those of the guess
abbrev pub invariant-loop-n : goal.invariant-loop-n
invariant-loop-n l =
    (Over (table_in l.counts l.initial.table) (table_in l.counts l.guess) → table_in l.counts l.table ≡ mixed l.n (table_in l.counts l.guess) (table_in l.counts l.initial.table))
    × Writes l.counts l.initial.table l.table
