use Rattle.std.proofs.Common.{rules, tests}
use Rattle.fixpoint.proofs.moving.moved_range.Goals.{then-made-guess, else-made-guess}
use Rattle.fixpoint.proofs.moving.moved_range.Goals as goal

pub returns-then-guess-made : goal.returns-then-guess-made
returns-then-guess-made c = elim c.if-made-guess.branch [ then-made-guess w ↦ search (rules, tests) | else-made-guess w ↦ search (rules, tests) ]

pub returns-else-guess-made : goal.returns-else-guess-made
returns-else-guess-made c = elim c.if-made-guess.branch [ then-made-guess w ↦ search (rules, tests) | else-made-guess w ↦ search (rules, tests) ]
