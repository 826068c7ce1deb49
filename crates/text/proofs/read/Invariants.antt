use Rattle.text.proofs.Progress.{Sofar}
use Rattle.text.proofs.read.Given as goal

abbrev pub invariant-loop-word : goal.invariant-loop-word
invariant-loop-word l = Sofar l.text l.initial.numbers l.numbers l.count l.word-iterator
