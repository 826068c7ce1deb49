use Rattle.std.proofs.Common.{T, take}
use Rattle.std.specs.List.{AllByRecursion}
use Rattle.number.specs.Numbers.{in64}
use Rattle.interpreter.proofs.memory.all_fit.Given as goal

abbrev pub invariant-loop-z : goal.invariant-loop-z
invariant-loop-z l = AllByRecursion (λ z. T (in64 z)) (take l.z-index l.numbers)
