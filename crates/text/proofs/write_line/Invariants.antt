use Rattle.std.proofs.Common.{◌≡◌, ◌++◌, drop, string_bytes}
use Rattle.text.specs.Lines.{spaced}
use Rattle.text.proofs.write_line.Given as goal

abbrev pub invariant-loop-number : goal.invariant-loop-number
invariant-loop-number l = string_bytes l.out ++ spaced (drop l.number-index l.rest) ≡ string_bytes l.initial.out ++ spaced l.rest
