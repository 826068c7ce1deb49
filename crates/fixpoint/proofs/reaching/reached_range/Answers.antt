use Rattle.std.proofs.Common.{rules, tests}
use Rattle.fixpoint.proofs.reaching.reached_range.Goals.{then-inside+then-moved-guess, then-inside+else-moved-guess, else-inside}
use Rattle.fixpoint.proofs.reaching.reached_range.Goals as goal

pub returns-then-guess-moved : goal.returns-then-guess-moved
returns-then-guess-moved c =
    elim c.if-inside.branch [
      | then-inside+then-moved-guess w ↦ search (rules, tests)
      | then-inside+else-moved-guess w ↦ search (rules, tests)
      | else-inside w ↦ search (rules, tests)
    ]

pub returns-else-guess-moved : goal.returns-else-guess-moved
returns-else-guess-moved c =
    elim c.if-inside.branch [
      | then-inside+then-moved-guess w ↦ search (rules, tests)
      | then-inside+else-moved-guess w ↦ search (rules, tests)
      | else-inside w ↦ search (rules, tests)
    ]
