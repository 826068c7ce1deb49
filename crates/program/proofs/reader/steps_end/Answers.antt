use Rattle.std.proofs.Common.{◌≡◌, suc, ◌+◌, ◌-◌, Ok, Err, sym, ap, ◌∙◌, arith}
use Rattle.std.proofs.lemmas.Result.{err_from_is_err_and}
use Rattle.program.specs.Reading.{and_then, widths}
use Rattle.program.proofs.Loops.{steps_stop, ends_go}
use Rattle.program.proofs.reader.steps_end.Goals as goal

pub returns-in_err-next : goal.returns-in_err-next
returns-in_err-next c =
    let p = err_from_is_err_and c.from_residual.result c.from_residual.ensures.1 in
    let k = c.loop.counter in
    let more : c.args.counts.steps - k ≡ suc (c.args.counts.steps - (k + 1)) = omega arith in
    p.1 ∙ ap Err p.2 ∙ sym (ap (λ r. and_then r (λ is. Ok (c.loop.at + widths is))) (steps_stop c.args.counts c.args.rows.now c.loop.at _ _ more _ c.in_err-next.ensures)) ∙ c.loop.invariant

pub loop-preserved : goal.loop-preserved
loop-preserved c =
    let k = c.loop.counter in
    let more : c.args.counts.steps - k ≡ suc (c.args.counts.steps - (k + 1)) = omega arith in
    sym (ends_go c.args.counts c.args.rows.now c.loop.at _ _ more _ _ c.in_ok-next.ensures) ∙ c.loop.invariant
