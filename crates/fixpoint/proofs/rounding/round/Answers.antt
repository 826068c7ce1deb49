use Rattle.std.proofs.Common.{false, sym, ap, ◌∙◌, subst, arith}
use Rattle.std.specs.List.{AllByRecursion}
use Rattle.program.specs.Program.{counts_of}
use Rattle.program.specs.Rows.{row_p}
use Rattle.table.specs.Hops.{through, IsHop}
use Rattle.table.proofs.Nothing.{nth-ok_i}
use Rattle.table.proofs.Hopping.{hops_are}
use Rattle.fixpoint.specs.Rounds.{round_hop}
use Rattle.fixpoint.specs.Joining.{table_in, Writes}
use Rattle.fixpoint.proofs.Hopping.{hop_joined, through_sweep, round_idle, round_says}
use Rattle.fixpoint.proofs.Promises.{parts}
use Rattle.fixpoint.proofs.rounding.round.Goals as goal

pub loop-hop-init : goal.loop-hop-init
loop-hop-init c =
    let p = c.args.program.now in
    let t = table_in (counts_of p) c.args.table.now in
    let all = c.into_iter-hop-iterator.ensures.into_iter_gives ∙ c.of-hop-items.ensures.all in
    record {
      hops = subst (AllByRecursion (IsHop p)) (sym all) (hops_are p c.of-hop-items.ensures.fine);
      round = ap (λ hs. through (round_hop p) hs (record { table = t; changed = false })) all ∙ through_sweep (round_hop p) (round_idle p) 0 p.code _;
      writes = λ w. w;
    }

pub join_hop-changed-requires : goal.join_hop-changed-requires
join_hop-changed-requires c =
    let p = c.args.program.now in
    let fine = c.of-hop-items.ensures.fine in
    let hop = (subst (AllByRecursion (IsHop p)) c.in-Some.ensures.steps c.loop-hop.invariant.hops).0 in
    rw c.counts-counts.ensures.exact record {
      long = c.loop-hop.auto.table ∙ c.requires.long;
      room = c.loop-hop.auto.out ∙ c.requires.room;
      notes = c.loop-hop.auto.notes ∙ c.requires.notes;
      here = omega (arith, hop.from);
      there = hop.to;
    }

pub loop-hop-preserved : goal.loop-hop-preserved
loop-hop-preserved c =
    let p = c.args.program.now in
    let h = c.in-Some.hop in
    let hops = subst (AllByRecursion (IsHop p)) c.in-Some.ensures.steps c.loop-hop.invariant.hops in
    let words = c.words_of-words.ensures.words p c.rows.ensures (nth-ok_i _ p h.from.0 h.step c.rows.ensures hops.0.here) in
    let exact = c.counts-counts.ensures.exact in
    let joined = c.join_hop-changed.ensures in
    record {
      hops = hops.1;
      round = ap (through (round_hop p) c.next.new.self) (hop_joined p h _ _ c.loop-hop.table c.join_hop-changed.new.table c.join_hop-changed.result hops.0 words exact joined c.loop-hop.changed)
          ∙ ap (λ hs. through (round_hop p) hs (record { table = table_in (counts_of p) c.loop-hop.table; changed = c.loop-hop.changed })) (sym c.in-Some.ensures.steps)
          ∙ c.loop-hop.invariant.round;
      writes = λ w. subst (λ k. Writes k c.loop-hop.table c.join_hop-changed.new.table) exact joined.writes (c.loop-hop.invariant.writes w);
    }

pub returns : goal.returns
returns c =
    let p = c.args.program.now in
    let inv = c.loop-hop.invariant in
    record {
      says = round_says (row_p p) p _ (table_in (counts_of p) c.loop-hop.table) c.loop-hop.changed c.of-hop-items.ensures.fine (ap (λ hs. through (round_hop p) hs (record { table = table_in (counts_of p) c.loop-hop.table; changed = c.loop-hop.changed })) (sym c.in-None.ensures.steps.0) ∙ inv.round);
      writes = inv.writes;
      parts = parts;
    }
