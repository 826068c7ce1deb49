use Rattle.std.proofs.Common.{sym}
use Rattle.fixpoint.proofs.Places.{row_within}
use Rattle.fixpoint.proofs.Hopping.{nothing_joined, made_joined}
use Rattle.fixpoint.proofs.rounding.join_hop.Goals as goal

pub returns-in_default : goal.returns-in_default
returns-in_default c = nothing_joined c.args.counts c.args.hop.to.0 c.args.table.now _ (sym c.in_default.ensures)

pub note_place-requires : goal.note_place-requires
note_place-requires c = record {
  notes = row_within c.args.counts c.args.hop.to.0 c.args.notes.now c.requires.notes c.requires.there;
  there = row_within c.args.counts c.args.hop.to.0 c.args.table.now c.requires.long c.requires.there;
}

pub join_place-requires-clause-there : goal.join_place-requires-clause-there
join_place-requires-clause-there c = row_within c.args.counts c.args.hop.to.0 c.args.table.now c.requires.long c.requires.there

pub returns : goal.returns
returns c = made_joined c.args.counts c.args.hop.to.0 c.args.table.now c.join_place.new.table c.join_place.result _ _ c.in-Some.ensures c.join_place.ensures
