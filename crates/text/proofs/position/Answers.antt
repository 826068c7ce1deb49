use Rattle.std.proofs.Common.{◌≡◌, ℕ, ◌≤◌, List, length, Some, Option, sym, ap, ◌∙◌}
use Rattle.std.specs.Iterator.{YieldsThen, YieldsFirstBy}
use Rattle.std.specs.List.{slice_get}
use Rattle.std.specs.Option.{MatchOption, option_map}
use Rattle.std.proofs.lemmas.Iterator.Consumers.{nth_from_yields_List, YieldsList-from_first}
use Rattle.text.specs.declared.words.Word as item
use Rattle.text.specs.Words.{Word, position_of, words_of}
use Rattle.text.proofs.Scans.{within, within_at}
use Rattle.text.proofs.position.Goals as goal

abbrev word_of : item.Word → Word
word_of w = record { start = w.start; bytes = w.bytes.now }

found : (text : List ℕ) (i : ℕ) (s : List Word) (r : Option item.Word) (u : List Word) → s ≡ words_of text → ((xs : List item.Word) × YieldsThen (YieldsFirstBy word_of (λ left. left)) s xs r u × MatchOption r (length xs ≤ i) (λ _. length xs ≡ i)) → option_map word_of r ≡ slice_get (words_of text) i
found text i s r u e ran = nth_from_yields_List r u i ran (YieldsList-from_first word_of (λ left. left) (words_of text) e)

pub returns-in_err-word : goal.returns-in_err-word
returns-in_err-word c =
    let text = c.args.text.now in
    let none = ap (option_map word_of) (sym c.in_err-word.was) ∙ found text _ _ _ _ c.of.ensures c.nth.ensures.ran in
    c.from_residual.ensures ∙ ap (option_map (λ w. position_of text w.start)) none

pub position_at-requires : goal.position_at-requires
position_at-requires c =
    let text = c.args.text.now in
    let one = ap (option_map word_of) (sym c.in_ok-word.was) ∙ found text _ _ _ _ c.of.ensures c.nth.ensures.ran in
    within_at _ _ _ _ (within text) (sym one)

pub returns : goal.returns
returns c =
    let text = c.args.text.now in
    let one = ap (option_map word_of) (sym c.in_ok-word.was) ∙ found text _ _ _ _ c.of.ensures c.nth.ensures.ran in
    ap Some c.position_at.ensures ∙ ap (option_map (λ w. position_of text w.start)) one
