use Rattle.std.proofs.Common.{◌≡◌, ◌++◌, string_bytes}
use Rattle.program.proofs.Walk.{AheadOf}
use Rattle.table.specs.Tables.{Table}
use Rattle.table.specs.Rows.{row_t}
use Rattle.table.specs.Says.{Full}
use Rattle.report.specs.Licences.{test_lines}
use Rattle.report.proofs.licences.write_tests.Given as goal

-- what is written, with the lines of the steps that are left, is all that is to be written
abbrev pub invariant-loop-place : goal.invariant-loop-place
invariant-loop-place l =
    AheadOf l.program l.place-iterator
    × ((t : Table) → Full l.program t → row_t l.program.vars t ≡ l.table → string_bytes l.out ++ test_lines l.program t l.place-iterator.place l.place-iterator.steps ≡ string_bytes l.initial.out ++ test_lines l.program t 0 l.program.code)
