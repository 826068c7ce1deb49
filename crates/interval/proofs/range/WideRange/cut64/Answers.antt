use Rattle.std.proofs.Common.{not, sym, ap, ap₂, ◌∙◌, rules, w64, SFits}
use Rattle.std.specs.Bool.{then_some}
use Rattle.std.specs.Option.{option_or}
use Rattle.std.proofs.lemmas.Int.{to_z-of_z}
use Rattle.number.specs.Numbers.{value_of, low, high}
use Rattle.interval.specs.Boxes.{left}
use Rattle.interval.proofs.Ends.{lower-end, upper-end}
use Rattle.interval.proofs.range.WideRange.cut64.Goals as goal

pub returns : goal.returns
returns c =
    let lo = value_of c.args.self.lo in
    let hi = value_of c.args.self.hi in
    let a : SFits w64 c.in_ok-lo.lo = search rules in
    let b : SFits w64 c.in_ok-hi.hi = search rules in
    let e = sym (c.or.ensures ∙ ap₂ option_or c.narrow.ensures (c.then_some.ensures ∙ ap (λ t. then_some t low) c.negative.ensures)) ∙ c.in_ok-lo.was in
    let f = sym (c.or-2.ensures ∙ ap₂ option_or c.narrow-2.ensures (c.then_some-2.ensures ∙ ap (λ t. then_some (not t) high) c.negative-2.ensures)) ∙ c.in_ok-hi.was in
    c.left.ensures ∙ ap₂ (λ x y. left (record { lo = x; hi = y })) (to_z-of_z w64 _ a ∙ lower-end lo _ e) (to_z-of_z w64 _ b ∙ upper-end hi _ f)
