use Rattle.std.proofs.Common.{sym, ap, length, ◌∙◌, rules}
use Rattle.std.proofs.lemmas.List.{take_rest}
use Rattle.text.proofs.Scans.{word_first}
use Rattle.text.proofs.words.WordsIterator.next.Goals as goal

pub returns-clause-steps : goal.returns-clause-steps
returns-clause-steps c =
    let next = c.in_ok-start.ensures in
    sym c.self.view_is ∙ next.words ∙ word_first _ _ _ _ next.within next.begins (take_rest c.self.inside.text.now c.in_ok-start.start) c.word_len.ensures

pub returns-clause-goes : goal.returns-clause-goes
returns-clause-goes c =
    let fewer = ap length (returns-clause-steps c) in
    search rules
