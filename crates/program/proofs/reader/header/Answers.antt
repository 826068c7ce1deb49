use Rattle.program.proofs.Loops.{header_is}
use Rattle.program.proofs.reader.header.Goals as goal

pub returns : goal.returns
returns c = header_is c.args.rows.now _ _ _ _ c.in_ok-vars.ensures c.in_ok-arrays.ensures c.in_ok-words.ensures c.in_ok-steps.ensures
