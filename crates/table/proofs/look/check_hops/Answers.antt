use Rattle.std.proofs.Common.{◌+◌, ◌*◌, ◌≤◌, length, Err, sym, ap, ◌∙◌, subst, ap₂, arith}
use Rattle.std.specs.List.{AllByRecursion}
use Rattle.std.proofs.lemmas.Result.{err_from_is_err_and}
use Rattle.table.specs.Hops.{IsHop}
use Rattle.table.specs.Rows.{width}
use Rattle.table.specs.Looking.{or_else, hop_fault, unless}
use Rattle.table.proofs.Nothing.{nth-ok_i}
use Rattle.table.proofs.Hopping.{hops_are}
use Rattle.table.proofs.Loops.{row_there, hops_fault, hops_steps, unless_none, unless_some}
use Rattle.table.proofs.look.check_hops.Goals as goal

pub loop-hop-init : goal.loop-hop-init
loop-hop-init c =
    let p = c.args.program.now in
    let all = c.into_iter-hop-iterator.ensures.into_iter_gives ∙ c.of-hop-items.ensures.all in
    (subst (AllByRecursion (IsHop p)) (sym all) (hops_are p c.of-hop-items.ensures.fine), ap (hops_fault p c.args.table.now) all ∙ hops_steps p c.args.table.now 0 p.code)

pub check_hop-requires : goal.check_hop-requires
check_hop-requires c =
    let p = c.args.program.now in
    let fine = c.of-hop-items.ensures.fine in
    let w = width p.vars in
    let vars = ap (λ k. k.vars) c.counts-vars.ensures.exact in
    let hop = (subst (AllByRecursion (IsHop p)) c.in-Some.ensures.steps c.loop-hop.invariant.0).0 in
    let all : (length p.code + 1) * w ≤ length c.args.table.now = omega (arith, c.requires.long) in
    rw vars record {
      room = c.loop-hop.auto.out ∙ c.requires.room;
      here = row_there c.in-Some.hop.from.0 (length p.code + 1) w (length c.args.table.now) (omega (arith, hop.from)) all;
      there = row_there c.in-Some.hop.to.0 (length p.code + 1) w (length c.args.table.now) (omega (arith, hop.to)) all;
    }

pub returns-in_err-check_hop : goal.returns-in_err-check_hop
returns-in_err-check_hop c =
    let p = c.args.program.now in
    let s = c.args.table.now in
    let h = c.in-Some.hop in
    let hop = (subst (AllByRecursion (IsHop p)) c.in-Some.ensures.steps c.loop-hop.invariant.0).0 in
    let q = err_from_is_err_and c.from_residual.result c.from_residual.ensures.1 in
    let words = c.words_of-words.ensures.words p c.rows.ensures (nth-ok_i _ p h.from.0 h.step c.rows.ensures hop.here) in
    let here = ap₂ (λ w v. hop_fault w v s h) (sym words) (sym (ap (λ k. k.vars) c.counts-vars.ensures.exact)) ∙ unless_some _ _ c.in_err-check_hop.ensures in
    q.1 ∙ ap Err q.2 ∙ ap unless (sym (ap (λ o. or_else o (hops_fault p s c.next.new.self)) here) ∙ ap (hops_fault p s) (sym c.in-Some.ensures.steps) ∙ c.loop-hop.invariant.1)

pub loop-hop-preserved : goal.loop-hop-preserved
loop-hop-preserved c =
    let p = c.args.program.now in
    let s = c.args.table.now in
    let h = c.in-Some.hop in
    let hops = subst (AllByRecursion (IsHop p)) c.in-Some.ensures.steps c.loop-hop.invariant.0 in
    let words = c.words_of-words.ensures.words p c.rows.ensures (nth-ok_i _ p h.from.0 h.step c.rows.ensures hops.0.here) in
    let here = ap₂ (λ w v. hop_fault w v s h) (sym words) (sym (ap (λ k. k.vars) c.counts-vars.ensures.exact)) ∙ unless_none _ _ c.in_ok-check_hop.ensures in
    (hops.1, sym (ap (λ o. or_else o (hops_fault p s c.next.new.self)) here) ∙ ap (hops_fault p s) (sym c.in-Some.ensures.steps) ∙ c.loop-hop.invariant.1)

pub returns : goal.returns
returns c = ap unless (ap (hops_fault c.args.program.now c.args.table.now) (sym c.in-None.ensures.steps.0) ∙ c.loop-hop.invariant.1)
