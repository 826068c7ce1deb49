use Rattle.std.proofs.Common.{Err, sym, ap, ◌∙◌, subst}
use Rattle.std.proofs.lemmas.Result.{err_from_is_err_and}
use Rattle.table.specs.Says.{CheckPost}
use Rattle.table.proofs.Promises.{unread, good, bad}
use Rattle.table.proofs.Loops.{unless_none, unless_some}
use Rattle.table.proofs.look.check.Goals as goal

pub returns-in_err-program : goal.returns-in_err-program
returns-in_err-program c =
    let p = err_from_is_err_and c.from_residual.result c.from_residual.ensures.1 in
    let s = c.args.rows.now in
    let l = c.args.table.now in
    subst (CheckPost s l) (sym (p.1 ∙ ap Err p.2)) (unread s l _ c.in_err-program.ensures.says)

pub returns-in_err-check_table : goal.returns-in_err-check_table
returns-in_err-check_table c =
    let p = err_from_is_err_and c.from_residual-in_err-check_table.result c.from_residual-in_err-check_table.ensures.1 in
    let s = c.args.rows.now in
    let l = c.args.table.now in
    subst (CheckPost s l) (sym (p.1 ∙ ap Err p.2)) (bad s l c.in_ok-program.program _ c.in_ok-program.ensures.says (unless_some _ _ c.in_err-check_table.ensures))

pub returns : goal.returns
returns c = good c.args.rows.now c.args.table.now c.in_ok-program.program c.in_ok-program.ensures.says (unless_none _ _ c.in_ok-check_table.ensures)
