use Rattle.std.proofs.Common.{sym, ap, ◌∙◌, arith}
use Rattle.program.specs.Program.{counts_of}
use Rattle.program.specs.Rows.{row_p}
use Rattle.fixpoint.specs.Confirming.{Confirming, confirm_sweep, reached}
use Rattle.fixpoint.specs.Joining.{table_in}
use Rattle.fixpoint.proofs.Moves.{sweeps_more, confirm_says}
use Rattle.fixpoint.proofs.guess.confirm.Goals as goal

pub loop-counts-init : goal.loop-counts-init
loop-counts-init c = (omega arith, ap (table_in (counts_of c.args.program.now)) c.copy_from_slice.ensures.after)

pub loop-counts-preserved : goal.loop-counts-preserved
loop-counts-preserved c =
    let p = c.args.program.now in
    let k = counts_of p in
    let n = c.loop-counts.sweeps in
    let m = table_in k c.args.guess.now in
    let t = table_in k c.args.table.now in (
      omega (arith, c.loop-counts.invariant.0, c.if-sweeps-limit.false),
      ap (λ (r : Confirming). r.table) c.sweep-going.ensures ∙ ap (λ s. (confirm_sweep p m s).table) c.loop-counts.invariant.1 ∙ sym (sweeps_more n p m t),
    )

pub returns-then-yes : goal.returns-then-yes
returns-then-yes c =
    let p = c.args.program.now in
    let k = counts_of p in
    let t = table_in k c.args.table.now in
    let m = table_in k c.args.guess.now in
    let exact = ap (λ k. reached (table_in k c.args.table.now) (table_in k c.args.guess.now) (table_in k c.loop-counts.moved)) c.counts-counts.ensures.exact in
    record {
      says = confirm_says (row_p p) p t m _ c.counts-counts.ensures.fine (c.reached-yes.ensures ∙ exact ∙ ap (reached t m) c.loop-counts.invariant.1);
      few = c.loop-counts.invariant.0;
    }
