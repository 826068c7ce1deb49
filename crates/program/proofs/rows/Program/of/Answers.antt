use Rattle.std.proofs.Common.{sym, ◌∙◌}
use Rattle.program.specs.declared.refusal.Refusal.{Refusal}
use Rattle.program.specs.Program.{counts_of}
use Rattle.program.proofs.Results.{ok_same, err_not_ok}
use Rattle.program.proofs.Promises.{counts_known}
use Rattle.program.proofs.rows.Program.of.Goals as goal

pub unreachable-requires : goal.unreachable-requires
unreachable-requires c = err_not_ok _ (counts_of c.requires.0) (sym c.in-Err.is ∙ c.header.ensures ∙ counts_known c.args.rows.now c.requires.0 c.requires.1)

pub known-requires : goal.known-requires
known-requires c = (c.requires.0, c.requires.1, ok_same {E = Refusal} _ _ (sym c.in-Ok.is ∙ c.header.ensures ∙ counts_known c.args.rows.now c.requires.0 c.requires.1))
