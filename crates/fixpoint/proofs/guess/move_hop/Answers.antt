use Rattle.std.proofs.Common.{sym, ap, ◌∙◌, subst, ap₂}
use Rattle.table.specs.Tables.{at}
use Rattle.fixpoint.specs.Hops.{after}
use Rattle.fixpoint.specs.Confirming.{moved_at}
use Rattle.fixpoint.specs.Joining.{table_in}
use Rattle.fixpoint.specs.Moving.{Moved}
use Rattle.fixpoint.proofs.Moves.{no_made, no_grown, nothing_moved}
use Rattle.fixpoint.proofs.guess.move_hop.Goals as goal

pub returns-in_default : goal.returns-in_default
returns-in_default c =
    let k = c.args.counts in
    let m = table_in k c.args.guess.now in
    let s = table_in k c.args.table.now in
    let to = c.args.hop.to.0 in
    let grown = after c.args.words c.args.hop.way c.args.hop.step (at s c.args.hop.from.0) in
    nothing_moved k to c.args.table.now _ (ap (λ a. moved_at (at m to) a grown (at s to)) (sym c.in_default.ensures) ∙ no_made (at m to) grown (at s to))

pub returns-in_default-make : goal.returns-in_default-make
returns-in_default-make c =
    let k = c.args.counts in
    let m = table_in k c.args.guess.now in
    let s = table_in k c.args.table.now in
    let to = c.args.hop.to.0 in
    let made = after c.args.words c.args.hop.way c.args.hop.step (at m c.args.hop.from.0) in
    nothing_moved k to c.args.table.now _ (ap (λ a. moved_at (at m to) made a (at s to)) (sym c.in_default-make.ensures) ∙ no_grown (at m to) made (at s to))

pub returns : goal.returns
returns c =
    let k = c.args.counts in
    let m = table_in k c.args.guess.now in
    let s = table_in k c.args.table.now in
    let to = c.args.hop.to.0 in
    subst (λ a. Moved k to a c.args.table.now c.move_place.new.table c.move_place.result) (ap₂ (λ a b. moved_at (at m to) a b (at s to)) c.in-Some.ensures c.in-Some-make.ensures) c.move_place.ensures
