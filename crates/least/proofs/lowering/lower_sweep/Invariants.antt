use Rattle.std.specs.List.{AllByRecursion}
use Rattle.table.specs.Hops.{IsHop}
use Rattle.least.proofs.lowering.lower_sweep.Given as goal

abbrev pub invariant-loop-hop : goal.invariant-loop-hop
invariant-loop-hop l = AllByRecursion (IsHop l.program) l.hop-iterator
