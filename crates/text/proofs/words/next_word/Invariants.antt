use Rattle.std.proofs.Common.{◌≡◌, drop}
use Rattle.text.specs.Words.{between, gap, scan}
use Rattle.text.proofs.words.next_word.Given as goal

abbrev pub invariant-loop-at : goal.invariant-loop-at
invariant-loop-at l = scan (gap l.comment) l.at (drop l.at l.text) ≡ scan between l.from (drop l.from l.text)
