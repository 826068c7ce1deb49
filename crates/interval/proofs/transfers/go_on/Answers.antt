use Rattle.std.proofs.Common.{ap, ◌∙◌, rules, w64, SFits}
use Rattle.std.proofs.lemmas.Int.{to_z-of_z}
use Rattle.interval.specs.Ranges.{any, cut, scaled, range}
use Rattle.interval.specs.Boxes.{box_of, left}
use Rattle.interval.proofs.transfers.go_on.Goals as goal

pub returns-in-Mul : goal.returns-in-Mul
returns-in-Mul c =
    let f : SFits w64 c.in-Mul.c = search rules in
    let r = range (box_of c.args.numbers.now) c.in-Mul.e in
    rw c.in-Mul.is (c.hold-in-Mul.ensures (cut (scaled c.in-Mul.c r) any) (c.cut64-in-Mul.ensures ∙ ap (λ q. left (cut q any)) (simp to_z-of_z at c.scaled.ensures ∙ ap (scaled c.in-Mul.c) c.operand_range-in-Mul.ensures)))
