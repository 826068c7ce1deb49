use Rattle.std.proofs.Common.{◌≡◌, ◌++◌, drop, string_bytes}
use Rattle.report.specs.Listing.{array_lines}
use Rattle.report.proofs.Lines.{number_lines}
use Rattle.report.proofs.list.list_arrays.Given as goal

-- what is written, with the lines of the arrays that are left, is all that is to be written
abbrev pub invariant-loop-k : goal.invariant-loop-k
invariant-loop-k l =
    string_bytes l.out ++ number_lines l.k-counter (drop l.k-counter l.n-items) ≡ string_bytes l.initial.out ++ array_lines 0 l.program.arrays
