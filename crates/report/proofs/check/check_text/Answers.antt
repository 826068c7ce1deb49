use Rattle.std.proofs.Common.{length, Err, sym, ap, ◌∙◌, subst, rules}
use Rattle.std.proofs.lemmas.Result.{err_from_is_err_and}
use Rattle.report.specs.Checking.{CheckTextSays}
use Rattle.report.proofs.Texts.{not_good}
use Rattle.report.proofs.check.check_text.Goals as goal

pub returns-in_err-map_err : goal.returns-in_err-map_err
returns-in_err-map_err c =
    let u = c.args.program.now in
    let v = c.args.table.now in
    let m = length c.args.rows.now in
    let n = length c.args.numbers.now in
    let p = err_from_is_err_and c.from_residual-in_err-map_err.result c.from_residual-in_err-map_err.ensures.1 in
    subst (CheckTextSays u v m n) (sym (p.1 ∙ ap Err p.2))
    (not_good u v m n c.in_ok-rows.rows.now c.in_ok-numbers.numbers.now (search rules) (search rules) c.in_err-map_err.field-0.0 c.check.result c.check.ensures.says (search rules))
