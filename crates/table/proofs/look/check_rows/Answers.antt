use Rattle.std.proofs.Common.{◌≡◌, suc, ◌+◌, ◌-◌, ◌*◌, take, drop, Err, Some, None, sym, ap, ◌∙◌, ◌^◌, ◌<◌, length, zero-mul, add-mul, one-mul, arith, rules}
use Rattle.std.proofs.lemmas.Result.{err_from_is_err_and}
use Rattle.table.specs.Rows.{width}
use Rattle.table.specs.Looking.{or_else, row_fault, rows_fault, unless}
use Rattle.table.proofs.Loops.{row_there, rows_more, unless_none, unless_some}
use Rattle.table.proofs.look.check_rows.Goals as goal

pub loop-n-init : goal.loop-n-init
loop-n-init c =
    let none : c.args.places - 0 ≡ c.args.places = omega arith in
    ap (λ k. rows_fault c.args.vars k c.args.table.now (c.args.places - 0)) (zero-mul (width c.args.vars)) ∙ ap (rows_fault c.args.vars 0 c.args.table.now) none

pub row_of-requires : goal.row_of-requires
row_of-requires c = row_there c.loop-n.n c.args.places (width c.args.vars) _ c.loop-n-test.true c.requires

pub check_row-requires : goal.check_row-requires
check_row-requires c =
    let there = row_there c.loop-n.n c.args.places (width c.args.vars) _ c.loop-n-test.true c.requires in
    let long : length c.args.table.now < 2 ^ 64 = search rules in
    record { some = omega (arith, c.row_of.ensures.long); fits = omega (arith, long, there, c.row_bounds.ensures.start, c.row_of.ensures.long) }

pub returns-in_err-check_row : goal.returns-in_err-check_row
returns-in_err-check_row c =
    let s = c.args.table.now in
    let v = c.args.vars in
    let k = c.loop-n.n * width v in
    let m = c.args.places - (c.loop-n.n + 1) in
    let more : c.args.places - c.loop-n.n ≡ suc m = omega (arith, c.loop-n-test.true) in
    let q = err_from_is_err_and c.from_residual.result c.from_residual.ensures.1 in
    let here : row_fault k (take (width v) (drop k s)) ≡ Some c.in_err-check_row.field-0.0 = ap (row_fault k) (sym c.row_of.ensures.row) ∙ ap (λ k. row_fault k c.row_of.result.now) (sym c.row_bounds.ensures.start) ∙ unless_some _ _ c.in_err-check_row.ensures in
    q.1 ∙ ap Err q.2 ∙ ap unless (sym (ap (λ o. or_else o (rows_fault v (k + width v) s m)) here) ∙ sym (rows_more v k _ m s more) ∙ c.loop-n.invariant)

pub loop-n-preserved : goal.loop-n-preserved
loop-n-preserved c =
    let s = c.args.table.now in
    let v = c.args.vars in
    let n = c.loop-n.n in
    let k = n * width v in
    let m = c.args.places - (n + 1) in
    let more : c.args.places - n ≡ suc m = omega (arith, c.loop-n-test.true) in
    let next : (n + 1) * width v ≡ k + width v = let a = add-mul n 1 (width v) in omega (arith, a, one-mul (width v)) in
    let here : row_fault k (take (width v) (drop k s)) ≡ None = ap (row_fault k) (sym c.row_of.ensures.row) ∙ ap (λ k. row_fault k c.row_of.result.now) (sym c.row_bounds.ensures.start) ∙ unless_none _ _ c.in_ok-check_row.ensures in
    ap (λ k. rows_fault v k s m) next ∙ sym (ap (λ o. or_else o (rows_fault v (k + width v) s m)) here) ∙ sym (rows_more v k _ m s more) ∙ c.loop-n.invariant

pub returns : goal.returns
returns c =
    let none : c.args.places - c.loop-n.n ≡ 0 = omega arith in
    ap unless (sym (ap (rows_fault c.args.vars (c.loop-n.n * width c.args.vars) c.args.table.now) none) ∙ c.loop-n.invariant)
