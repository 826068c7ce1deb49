use Rattle.std.proofs.Common.{sym, ◌∙◌, subst, arith}
use Rattle.std.specs.List.{AllByRecursion}
use Rattle.table.specs.Hops.{IsHop}
use Rattle.table.proofs.Hopping.{hops_are}
use Rattle.least.proofs.lowering.lower_sweep.Goals as goal

pub loop-hop-init : goal.loop-hop-init
loop-hop-init c =
    let p = c.args.program.now in
    subst (AllByRecursion (IsHop p)) (sym (c.into_iter-hop-iterator.ensures.into_iter_gives ∙ c.of-hop-items.ensures.all)) (hops_are p c.of-hop-items.ensures.fine)

pub lower_hop-changed-requires : goal.lower_hop-changed-requires
lower_hop-changed-requires c =
    let p = c.args.program.now in
    let fine = c.of-hop-items.ensures.fine in
    let hop = (subst (AllByRecursion (IsHop p)) c.in-Some.ensures.steps c.loop-hop.invariant).0 in
    rw c.counts-counts.ensures.exact record {
      guess = c.loop-hop.auto.guess ∙ c.requires.guess;
      table = c.requires.table;
      notes = c.requires.notes;
      made = c.loop-hop.auto.made ∙ c.requires.made;
      here = omega (arith, hop.from);
      there = hop.to;
    }

pub loop-hop-preserved : goal.loop-hop-preserved
loop-hop-preserved c = (subst (AllByRecursion (IsHop c.args.program.now)) c.in-Some.ensures.steps c.loop-hop.invariant).1
