use Rattle.std.proofs.Common.{◌≡◌, ◌++◌, string_bytes}
use Rattle.report.specs.Listing.{step_lines}
use Rattle.report.proofs.list.list_steps.Given as goal

-- what is written, with the lines of the steps that are left, is all that is to be written
abbrev pub invariant-loop-k : goal.invariant-loop-k
invariant-loop-k l =
    string_bytes l.out ++ step_lines l.k-iterator.place l.k-iterator.steps ≡ string_bytes l.initial.out ++ step_lines 0 l.program.code
