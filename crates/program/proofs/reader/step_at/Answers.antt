use Rattle.std.proofs.Common.{◌≡◌, ◌+◌, Ok, sym, ap, ◌∙◌, arith}
use Rattle.program.specs.Reading.{and_then, width}
use Rattle.program.proofs.Loops.{step_found, step-refused, step_at_ends, width_some}
use Rattle.program.proofs.reader.step_at.Goals as goal

pub overflow_add-result-in-Err : goal.overflow_add-result-in-Err
overflow_add-result-in-Err c =
    let w = step-refused c.args.rows.now c.args.at c.min-start.result c.min-start.ensures c.args.counts c.in-Err.f c.in-Err.ensures in
    omega (arith, w.1)

pub returns-in-Ok : goal.returns-in-Ok
returns-in-Ok c =
    let e = step_found c.args.rows.now c.args.at c.min-start.result c.min-start.ensures c.args.counts c.in-Ok.step c.in-Ok.ensures in
    let l = step_at_ends c.args.counts c.args.rows.now c.args.at c.in-Ok.step e in
    let m = width_some c.in-Ok.step in
    let next : c.min-start.result + c.width.result ≡ c.args.at + width c.in-Ok.step = omega (arith, l, m, c.min-start.ensures, c.width.ensures) in
    ap (λ n. Ok (c.in-Ok.step, n)) next ∙ sym (ap (λ r. and_then r (λ i. Ok (i, c.args.at + width i))) e)

pub returns-in-Err : goal.returns-in-Err
returns-in-Err c =
    let w = step-refused c.args.rows.now c.args.at c.min-start.result c.min-start.ensures c.args.counts c.in-Err.f c.in-Err.ensures in
    sym (ap (λ r. and_then r (λ i. Ok (i, c.args.at + width i))) w.0)
