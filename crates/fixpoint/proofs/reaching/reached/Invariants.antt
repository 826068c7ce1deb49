use Rattle.std.proofs.Common.{◌≡◌, drop}
use Rattle.fixpoint.specs.Confirming.{reached}
use Rattle.fixpoint.specs.Joining.{table_in}
use Rattle.fixpoint.proofs.reaching.reached.Given as goal

-- the places that are left give the answer
abbrev pub invariant-loop-n : goal.invariant-loop-n
invariant-loop-n l = reached (drop l.n (table_in l.counts l.table)) (drop l.n (table_in l.counts l.guess)) (drop l.n (table_in l.counts l.moved)) ≡ reached (table_in l.counts l.table) (table_in l.counts l.guess) (table_in l.counts l.moved)
