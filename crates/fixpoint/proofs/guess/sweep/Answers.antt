use Rattle.std.proofs.Common.{false, sym, ap, ◌∙◌, subst, arith}
use Rattle.std.specs.List.{AllByRecursion}
use Rattle.program.specs.Program.{counts_of}
use Rattle.table.specs.Hops.{through, IsHop}
use Rattle.table.proofs.Nothing.{nth-ok_i}
use Rattle.table.proofs.Hopping.{hops_are}
use Rattle.fixpoint.specs.Confirming.{confirm_hop}
use Rattle.fixpoint.specs.Joining.{table_in}
use Rattle.fixpoint.specs.Moving.{Moved, moved_by}
use Rattle.fixpoint.proofs.Hopping.{through_sweep}
use Rattle.fixpoint.proofs.Moves.{hop_moved, confirm_idle}
use Rattle.fixpoint.proofs.guess.sweep.Goals as goal

pub loop-hop-init : goal.loop-hop-init
loop-hop-init c =
    let p = c.args.program.now in
    let f = confirm_hop p (table_in (counts_of p) c.args.guess.now) in
    let all = c.into_iter-hop-iterator.ensures.into_iter_gives ∙ c.of-hop-items.ensures.all in
    record {
      hops = subst (AllByRecursion (IsHop p)) (sym all) (hops_are p c.of-hop-items.ensures.fine);
      sweep = ap (λ hs. through f hs (record { table = table_in (counts_of p) c.args.table.now; moved = false })) all ∙ through_sweep f (confirm_idle p (table_in (counts_of p) c.args.guess.now)) 0 p.code _;
    }

pub move_hop-moved-requires : goal.move_hop-moved-requires
move_hop-moved-requires c =
    let p = c.args.program.now in
    let hop = (subst (AllByRecursion (IsHop p)) c.in-Some.ensures.steps c.loop-hop.invariant.hops).0 in
    rw c.counts-counts.ensures.exact record {
      long = c.loop-hop.auto.table ∙ c.requires.long;
      guess = c.requires.guess;
      made = c.loop-hop.auto.made ∙ c.requires.made;
      grown = c.loop-hop.auto.grown ∙ c.requires.grown;
      here = omega (arith, hop.from);
      there = hop.to;
    }

pub loop-hop-preserved : goal.loop-hop-preserved
loop-hop-preserved c =
    let p = c.args.program.now in
    let h = c.in-Some.hop in
    let m = table_in (counts_of p) c.args.guess.now in
    let f = confirm_hop p m in
    let hops = subst (AllByRecursion (IsHop p)) c.in-Some.ensures.steps c.loop-hop.invariant.hops in
    let words = c.words_of-words.ensures.words p c.rows.ensures (nth-ok_i _ p h.from.0 h.step c.rows.ensures hops.0.here) in
    let exact = c.counts-counts.ensures.exact in
    let moved = subst (λ k. Moved c.counts-counts.result h.to.0 (moved_by c.words_of-words.result (table_in k c.args.guess.now) h (table_in c.counts-counts.result c.loop-hop.table)) c.loop-hop.table c.move_hop-moved.new.table c.move_hop-moved.result) exact c.move_hop-moved.ensures in
    record {
      hops = hops.1;
      sweep = ap (through f c.next.new.self) (hop_moved p m h c.words_of-words.result c.counts-counts.result c.loop-hop.table c.move_hop-moved.new.table c.move_hop-moved.result hops.0 words exact moved c.loop-hop.moved)
          ∙ ap (λ hs. through f hs (record { table = table_in (counts_of p) c.loop-hop.table; moved = c.loop-hop.moved })) (sym c.in-Some.ensures.steps)
          ∙ c.loop-hop.invariant.sweep;
    }

pub returns : goal.returns
returns c =
    let p = c.args.program.now in
    ap (λ hs. through (confirm_hop p (table_in (counts_of p) c.args.guess.now)) hs (record { table = table_in (counts_of p) c.loop-hop.table; moved = c.loop-hop.moved })) (sym c.in-None.ensures.steps.0) ∙ c.loop-hop.invariant.sweep
