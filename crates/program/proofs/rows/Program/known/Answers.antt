use Rattle.program.proofs.Promises.{known}
use Rattle.program.proofs.rows.Program.known.Goals as goal

pub invariant_of-result : goal.invariant_of-result
invariant_of-result c = known c.args.rows.now c.requires.0 c.args.counts c.requires.1 c.requires.2

pub returns-clause-rows : goal.returns-clause-rows
returns-clause-rows c = (known c.args.rows.now c.requires.0 c.args.counts c.requires.1 c.requires.2).0

pub returns-clause-counts : goal.returns-clause-counts
returns-clause-counts c = (known c.args.rows.now c.requires.0 c.args.counts c.requires.1 c.requires.2).1
