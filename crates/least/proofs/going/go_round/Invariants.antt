use Rattle.std.proofs.Common.{◌≡◌}
use Rattle.program.specs.Program.{counts_of}
use Rattle.table.specs.Rows.{row_t}
use Rattle.fixpoint.specs.Rounds.{room}
use Rattle.fixpoint.specs.Joining.{table_in}
use Rattle.least.specs.Going.{Came}
use Rattle.least.proofs.going.go_round.Given as goal

-- the rounds so far led to the table
abbrev pub invariant-loop-rounds : goal.invariant-loop-rounds
invariant-loop-rounds l =
    let t = table_in (counts_of l.program) l.table in
    Came l.program t l.rounds × (row_t l.program.vars t ≡ l.table)

abbrev pub decreases-loop-rounds : goal.decreases-loop-rounds
decreases-loop-rounds l = room l.program (table_in (counts_of l.program) l.table)
