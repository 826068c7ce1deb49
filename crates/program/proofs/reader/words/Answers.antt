use Rattle.std.proofs.Common.{◌≡◌, suc, ◌+◌, ◌-◌, ◌≤◌, Ok, Err, sym, ap, ◌∙◌, add_assoc, arith}
use Rattle.std.proofs.lemmas.Result.{err_from_is_err_and}
use Rattle.std.proofs.lemmas.Bool.{leb-true}
use Rattle.program.specs.declared.refusal.Field.TheVariants.{Length}
use Rattle.program.specs.Program.{total}
use Rattle.program.specs.Reading.{and_then, lengths_at}
use Rattle.program.proofs.Results.{T_true, index_was}
use Rattle.program.proofs.Loops.{lengths_more, lengths_refused}
use Rattle.program.proofs.reader.words.Goals as goal

pub returns-in_err-sum : goal.returns-in_err-sum
returns-in_err-sum c =
    let p = err_from_is_err_and c.from_residual.result c.from_residual.ensures.1 in
    let k = c.loop-k.k in
    let more : c.args.arrays - k ≡ suc (c.args.arrays - suc k) = omega arith in
    p.1 ∙ ap Err p.2 ∙ sym (lengths_refused c.args.rows.now (2 + k) _ _ c.loop-k.sum more _ c.in_err-sum.ensures.exact) ∙ c.loop-k.invariant.1

pub loop-k-preserved : goal.loop-k-preserved
loop-k-preserved c =
    let k = c.loop-k.k in
    let n = c.in_ok-sum.field-0 in
    let s = c.args.rows.now in
    let e = c.in_ok-sum.ensures.exact in
    let more : c.args.arrays - k ≡ suc (c.args.arrays - (k + 1)) = omega arith in
    let small : n ≤ 65536 = leb-true n 65536 (T_true _ (index_was s (2 + k) Length n (sym e)).1) in (
      omega (arith, c.loop-k.invariant.0),
      ap (λ a. and_then (lengths_at s a (c.args.arrays - (k + 1))) (λ ns. Ok (c.loop-k.sum + n + total ns))) (sym (add_assoc 2 k 1)) ∙ sym (lengths_more s (2 + k) _ _ c.loop-k.sum more n e) ∙ c.loop-k.invariant.1,
    )
