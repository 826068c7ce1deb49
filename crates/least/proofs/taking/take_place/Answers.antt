use Rattle.std.proofs.Common.{◌<◌, length, set, sym, ap, ◌∙◌, arith}
use Rattle.std.proofs.lemmas.List.{take_rest}
use Rattle.interval.specs.Ranges.{within}
use Rattle.interval.specs.Boxes.{box_of}
use Rattle.table.specs.Tables.{at}
use Rattle.table.specs.Rows.{place_of}
use Rattle.table.proofs.Loops.{place_known}
use Rattle.fixpoint.specs.Rounds.{join_at}
use Rattle.fixpoint.specs.Joining.{table_in}
use Rattle.fixpoint.proofs.Places.{place_at}
use Rattle.least.proofs.taking.take_place.Goals as goal

pub returns-clause-taken : goal.returns-clause-taken
returns-clause-taken c =
    let t = table_in c.args.counts c.args.table.now in
    let n = c.args.n in
    let guess = c.args.guess.now in
    let row = c.row_of-row.result.now in
    let some : 0 < length row = omega (arith, c.row_of-row.ensures.long) in
    let there = place_at c.args.counts n guess c.requires.guess c.requires.place ∙ ap place_of (sym c.row_of-row.ensures.row) ∙ place_known row some (sym c.is_known.ensures ∙ c.if-not-is_known.false) in
    let box = ap (λ s. within (box_of s)) (take_rest row 1) ∙ sym there in
    c.join_place.ensures.table ∙ ap (λ a. set t n (join_at (at t n) a)) box
