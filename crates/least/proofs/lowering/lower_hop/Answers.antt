use Rattle.fixpoint.proofs.Places.{row_within}
use Rattle.least.proofs.lowering.lower_hop.Goals as goal

pub lower_place-requires : goal.lower_place-requires
lower_place-requires c = record {
  guess = row_within c.args.counts c.args.hop.to.0 c.args.guess.now c.requires.guess c.requires.there;
  table = row_within c.args.counts c.args.hop.to.0 c.args.table.now c.requires.table c.requires.there;
  notes = row_within c.args.counts c.args.hop.to.0 c.args.notes.now c.requires.notes c.requires.there;
}
