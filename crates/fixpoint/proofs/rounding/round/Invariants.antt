use Rattle.std.proofs.Common.{◌≡◌}
use Rattle.std.specs.List.{AllByRecursion}
use Rattle.program.specs.Program.{counts_of}
use Rattle.table.specs.Hops.{through, IsHop}
use Rattle.fixpoint.specs.Rounds.{round_hop, round}
use Rattle.fixpoint.specs.Joining.{table_in, Writes}
use Rattle.fixpoint.proofs.rounding.round.Given as goal

-- the hops that are left make the round
abbrev pub invariant-loop-hop : goal.invariant-loop-hop
invariant-loop-hop l =
    let p = l.program in
    record {
      hops : AllByRecursion (IsHop p) l.hop-iterator;
      round : through (round_hop p) l.hop-iterator (record { table = table_in (counts_of p) l.table; changed = l.changed }) ≡ round p (table_in (counts_of p) l.initial.table);
      writes : Writes (counts_of p) l.initial.table l.table;
    }
