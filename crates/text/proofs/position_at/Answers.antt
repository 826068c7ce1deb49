use Rattle.std.proofs.Common.{◌≡◌, ◌+◌, ◌∙◌, sym, take, not, eqb, reverse, rules, tests}
use Rattle.std.specs.List.{count_by, prefix_len}
use Rattle.std.proofs.lemmas.Iterator.Adapters.{YieldsList-from_rev_slice}
use Rattle.std.proofs.lemmas.Iterator.Consumers.{count_from_yields_List, YieldsList-at}
use Rattle.std.proofs.lemmas.Iterator.Search.{YieldsList-from_take_while}
use Rattle.std.proofs.lemmas.List.Folds.{length-prefix_len}
use Rattle.text.proofs.Places.{feeds_counted, since_counted}
use Rattle.text.proofs.position_at.Goals as goal

pub returns : goal.returns
returns c =
    let before = take c.args.place c.args.text.now in
    let feeds : c.count-feeds.result ≡ count_by (λ b. eqb b 10) before = search (rules, tests) in
    let back = YieldsList-at c.take_while.ensures.source (YieldsList-from_rev_slice before (search rules)) in
    let since : c.count-since.result ≡ prefix_len (λ b. not (eqb b 10)) (reverse before) = count_from_yields_List c.take_while.result c.count-since.result c.count-since.ensures.ran (YieldsList-from_take_while _ (λ b. not (eqb b 10)) back c.take_while.ensures.closure c.take_while.ensures.done (λ x b q k. search (rules, tests))) ∙ length-prefix_len _ (reverse before) in
    (λ j. record { line = 1 + (feeds ∙ sym (feeds_counted before)) j; column = 1 + (since ∙ sym (since_counted before)) j })
