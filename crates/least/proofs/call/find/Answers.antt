use Rattle.std.proofs.Common.{◌≡◌, ◌-◌, length, drop, refl, ap, ◌∙◌, subst, inl, inr, arith}
use Rattle.std.proofs.lemmas.List.{length-take-le, take_at, drop_at}
use Rattle.table.specs.Rows.{wants}
use Rattle.least.specs.Says.{wants_of}
use Rattle.least.proofs.Promises.{Short, no_program, few, found}
use Rattle.least.proofs.call.find.Goals as goal

pub returns-in_default : goal.returns-in_default
returns-in_default c = no_program c.args.program.now c.args.table.now _ _ c.in_default.ensures.says.0 refl

pub returns-then-table-size : goal.returns-then-table-size
returns-then-table-size c = few c.args.program.now c.args.table.now _ _ c.in-Ok.program c.in-Ok.ensures.says (subst (λ k. Short (wants k) (length c.args.table.now) (length c.args.work.now)) c.counts-counts.ensures.exact (inl c.if-table-size.true)) refl

pub returns-then-work-size : goal.returns-then-work-size
returns-then-work-size c = few c.args.program.now c.args.table.now _ _ c.in-Ok.program c.in-Ok.ensures.says (subst (λ k. Short (wants k) (length c.args.table.now) (length c.args.work.now)) c.counts-counts.ensures.exact (inr c.if-work-size.true)) refl

pub returns : goal.returns
returns c =
    let l = c.find_in.new.table in
    let o = c.args.table.now in
    let k = c.counts-counts.result in
    let size : wants k ≡ wants_of c.in-Ok.program = ap wants c.counts-counts.ensures.exact in
    let all : wants k - 0 ≡ wants_of c.in-Ok.program = omega (arith, size) in
    let long : length l ≡ wants_of c.in-Ok.program = c.find_in.auto.table ∙ length-take-le (wants k - 0) o (omega (arith, c.if-table-size.false)) ∙ all in
    found c.args.program.now o _ _ c.in-Ok.program c.in-Ok.ensures.says _ l (omega (arith, size, c.if-table-size.false)) (omega (arith, size, c.if-work-size.false)) long (take_at l _ _ long) (drop_at l _ _ long ∙ ap (λ j. drop j o) all) c.find_in.ensures
