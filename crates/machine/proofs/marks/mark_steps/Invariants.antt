use Rattle.std.proofs.Common.{◌≡◌, ◌+◌, ◌++◌, take}
use Rattle.program.specs.Program.{counts_of}
use Rattle.program.specs.Reading.{first, widths}
use Rattle.program.proofs.Walk.{AheadOf}
use Rattle.table.specs.Tables.{Table}
use Rattle.table.specs.Rows.{row_t}
use Rattle.table.specs.Says.{Full}
use Rattle.machine.specs.Marks.{marks_from}
use Rattle.machine.proofs.marks.mark_steps.Given as goal

-- the marks that are written, with those of the steps that are left, are all of them
abbrev pub invariant-loop-place : goal.invariant-loop-place
invariant-loop-place l =
    let p = l.program in
    let ahead = l.place-iterator in
    AheadOf p ahead
    × (l.at + widths ahead.steps ≡ first (counts_of p) + widths p.code)
    × ((t : Table) → Full p t → row_t p.vars t ≡ l.table → take ahead.place l.marks ++ marks_from p t ahead.place l.at ahead.steps ≡ marks_from p t 0 (first (counts_of p)) p.code)
