use Rattle.std.proofs.Common.{◌<◌, length, sym, ap, ◌∙◌, arith}
use Rattle.fixpoint.specs.Hops.{after}
use Rattle.fixpoint.proofs.Places.{row_within}
use Rattle.fixpoint.proofs.Hopping.{at_never, after_known}
use Rattle.fixpoint.proofs.making.make.Goals as goal

pub row_of-row-requires : goal.row_of-row-requires
row_of-row-requires c = row_within c.args.counts c.args.hop.from.0 c.args.table.now c.requires.long c.requires.here

pub returns-then-not-is_known : goal.returns-then-not-is_known
returns-then-not-is_known c =
    let row = c.row_of-row.result.now in
    let some : 0 < length row = omega (arith, c.row_of-row.ensures.long) in
    sym (ap (after c.args.words c.args.hop.way c.args.hop.step) (at_never c.args.counts c.args.hop.from.0 c.args.table.now row c.requires.long c.requires.here c.row_of-row.ensures.row some (sym c.is_known.ensures ∙ c.if-not-is_known.true)))

pub returns : goal.returns
returns c =
    let row = c.row_of-row.result.now in
    let some : 0 < length row = omega (arith, c.row_of-row.ensures.long) in
    c.transfer.ensures ∙ after_known c.args.counts c.args.hop.from.0 c.args.table.now row c.requires.long c.requires.here c.row_of-row.ensures.row some c.args.words c.args.hop.way c.args.hop.step (sym c.is_known.ensures ∙ c.if-not-is_known.false)
