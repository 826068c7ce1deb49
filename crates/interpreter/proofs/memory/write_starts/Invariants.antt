use Rattle.std.proofs.Common.{◌≡◌, ◌++◌, take, drop, pos}
use Rattle.program.specs.Program.{total}
use Rattle.machine.specs.Layout.{starts_from}
use Rattle.interpreter.proofs.memory.write_starts.Given as goal

-- those written, with those of the arrays that are left, are all
abbrev pub invariant-loop-k : goal.invariant-loop-k
invariant-loop-k l =
    let before = total (take l.k l.program.arrays) in
    (l.at ≡ pos before)
    × (take l.k l.starts ++ starts_from before (drop l.k l.program.arrays) ≡ starts_from 0 l.program.arrays)
