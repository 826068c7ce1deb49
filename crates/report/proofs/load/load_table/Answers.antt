use Rattle.std.proofs.Common.{length, take, Err, sym, ap, ◌∙◌, subst, rules}
use Rattle.std.proofs.lemmas.Result.{err_from_is_err_and}
use Rattle.report.specs.Loading.{LoadTableSays}
use Rattle.report.proofs.Texts.{not_loaded}
use Rattle.report.proofs.load.load_table.Goals as goal

pub returns-in_err-map_err-clause-says : goal.returns-in_err-map_err-clause-says
returns-in_err-map_err-clause-says c =
    let u = c.args.text.now in
    let s = c.args.rows.now in
    let room = length c.args.numbers.now in
    let l = c.read.new.numbers in
    let p = err_from_is_err_and c.from_residual-in_err-map_err.result c.from_residual-in_err-map_err.ensures.1 in
    subst (LoadTableSays u s room l) (sym (p.1 ∙ ap Err p.2))
    (not_loaded u s room l (take c.in_ok-n.n l) (search rules) c.in_err-map_err.field-0.0 c.check.result c.check.ensures.says (search rules))
