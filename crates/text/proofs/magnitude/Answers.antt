use Rattle.std.proofs.Common.{sym, ◌∙◌, arith, rules}
use Rattle.text.proofs.Digits.{digit_more}
use Rattle.text.proofs.magnitude.Goals as goal

pub loop-digit-preserved : goal.loop-digit-preserved
loop-digit-preserved c = (
  omega (arith, c.saturating_add-value.ensures),
  digit_more _ _ c.loop-digit.value _ c.loop-digit-test.true (sym c.if-not-is_ascii_digit.ensures.value) (search rules) ∙ c.loop-digit.invariant.1,
)
