use Rattle.std.proofs.Common.{◌++◌, take, length, subst}
use Rattle.transcript.specs.Transcripts.{number_lines, end_line, Written}
use Rattle.transcript.proofs.Ends.{ended}
use Rattle.transcript.proofs.runs.run_text.Goals as goal

pub returns-in-Stopped : goal.returns-in-Stopped
returns-in-Stopped c =
    let k = c.in-Stopped.k in
    let o = c.run-ran.new.shown in
    ended c.args.rows.now c.args.table.now c.args.asked.now c.args.steps (length c.args.shown.now) (length c.args.work.now) c.args.shown.now o k c.run-ran.result c.in-Stopped.is c.run-ran.ensures.says c.lines.result
    (subst (λ ran. Written (number_lines (take k o) ++ end_line ran) c.lines.result) c.in-Stopped.ran-is c.lines.ensures)
