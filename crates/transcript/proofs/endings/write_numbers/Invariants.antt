use Rattle.std.proofs.Common.{◌≡◌, ◌++◌, drop, string_bytes}
use Rattle.transcript.specs.Transcripts.{number_lines}
use Rattle.transcript.proofs.endings.write_numbers.Given as goal

-- what is written, with the lines of the numbers that are left, is all that is to be written
abbrev pub invariant-loop-z : goal.invariant-loop-z
invariant-loop-z l = string_bytes l.out ++ number_lines (drop l.z-index l.numbers) ≡ string_bytes l.initial.out ++ number_lines l.numbers
