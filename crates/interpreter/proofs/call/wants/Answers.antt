use Rattle.std.proofs.Common.{ap, arith}
use Rattle.program.proofs.Whole.{few_steps, few_words}
use Rattle.interpreter.proofs.call.wants.Goals as goal

pub returns : goal.returns
returns c s p is e =
    let steps = few_steps s p is in
    let words = few_words s p is in
    let a = ap (λ k. k.steps) e in
    let b = ap (λ k. k.words) e in
    omega (arith, steps, words, a, b, c.saturating_add.ensures, c.saturating_add-2.ensures)
