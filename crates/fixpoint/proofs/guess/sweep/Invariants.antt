use Rattle.std.proofs.Common.{◌≡◌}
use Rattle.std.specs.List.{AllByRecursion}
use Rattle.program.specs.Program.{counts_of}
use Rattle.table.specs.Hops.{through, IsHop}
use Rattle.fixpoint.specs.Confirming.{confirm_hop, confirm_sweep}
use Rattle.fixpoint.specs.Joining.{table_in}
use Rattle.fixpoint.proofs.guess.sweep.Given as goal

-- the hops that are left make the sweep
abbrev pub invariant-loop-hop : goal.invariant-loop-hop
invariant-loop-hop l =
    let p = l.program in
    let m = table_in (counts_of p) l.guess in
    record {
      hops : AllByRecursion (IsHop p) l.hop-iterator;
      sweep : through (confirm_hop p m) l.hop-iterator (record { table = table_in (counts_of p) l.table; moved = l.moved }) ≡ confirm_sweep p m (table_in (counts_of p) l.initial.table);
    }
