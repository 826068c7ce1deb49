use Rattle.std.proofs.Common.{length, take, Err, sym, ap, ◌∙◌, subst, rules}
use Rattle.std.proofs.lemmas.Result.{err_from_is_err_and}
use Rattle.report.specs.Loading.{LoadProgramSays}
use Rattle.report.proofs.Texts.{not_read}
use Rattle.report.proofs.load.load_program.Goals as goal

pub returns-in_err-map_err-clause-says : goal.returns-in_err-map_err-clause-says
returns-in_err-map_err-clause-says c =
    let u = c.args.text.now in
    let room = length c.args.rows.now in
    let s = c.read.new.numbers in
    let p = err_from_is_err_and c.from_residual-in_err-map_err.result c.from_residual-in_err-map_err.ensures.1 in
    subst (LoadProgramSays u room s) (sym (p.1 ∙ ap Err p.2))
    (not_read u room s (take c.in_ok-n.n s) (search rules) c.in_err-map_err.field-0.0 c.read-2.result c.read-2.ensures.says (search rules))
