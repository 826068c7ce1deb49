use Rattle.std.proofs.Common.{◌≡◌}
use Rattle.std.specs.List.{AllByRecursion}
use Rattle.table.specs.Hops.{IsHop}
use Rattle.table.specs.Looking.{steps_fault}
use Rattle.table.proofs.Loops.{hops_fault}
use Rattle.table.proofs.look.check_hops.Given as goal

-- the hops that are left give the answer
abbrev pub invariant-loop-hop : goal.invariant-loop-hop
invariant-loop-hop l =
    AllByRecursion (IsHop l.program) l.hop-iterator
    × (hops_fault l.program l.table l.hop-iterator ≡ steps_fault l.program l.table 0 l.program.code)
