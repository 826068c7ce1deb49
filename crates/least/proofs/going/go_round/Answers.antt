use Rattle.std.proofs.Common.{sym, ap, ◌∙◌, subst}
use Rattle.program.specs.Program.{counts_of}
use Rattle.program.specs.Rows.{row_p}
use Rattle.table.specs.Rows.{row_t}
use Rattle.fixpoint.specs.Rounds.{start}
use Rattle.fixpoint.specs.Joining.{table_in}
use Rattle.least.specs.Going.{Came}
use Rattle.least.proofs.Counts.{came_more, came_start, came_sound, round_less, guess_less}
use Rattle.least.proofs.going.go_round.Goals as goal

pub loop-rounds-init : goal.loop-rounds-init
loop-rounds-init c =
    let p = c.args.program.now in
    let exact = c.counts.ensures.exact in
    let same = ap (λ k. table_in k c.start.new.table) (sym exact) ∙ c.start.ensures.table p exact in
    (came_start p _ same, ap (row_t p.vars) same ∙ ap (λ k. row_t k.vars (start p)) (sym exact) ∙ c.start.ensures.rows p exact)

pub returns-then-not-changed : goal.returns-then-not-changed
returns-then-not-changed c =
    let p = c.args.program.now in
    let t = table_in (counts_of p) c.loop-rounds.table in
    let t' = table_in (counts_of p) c.round-changed.new.table in
    let inv = c.loop-rounds.invariant in
    let says = c.round-changed.ensures.says in
    record {
      least = says.last (came_sound (row_p p) p t _ c.counts.ensures.fine inv.0) c.if-not-changed.true;
      rows = c.round-changed.ensures.writes inv.1;
      came = subst (Came p t') (sym c.saturating_add-rounds.ensures) (came_more p t t' _ 1 says.way inv.0);
    }

pub loop-rounds-smaller-then-wait-eq0 : goal.loop-rounds-smaller-then-wait-eq0
loop-rounds-smaller-then-wait-eq0 c =
    let p = c.args.program.now in
    let k = counts_of p in
    guess_less (row_p p) p (table_in k c.loop-rounds.table) (table_in k c.round-changed.new.table) (table_in k c.guess_ahead-guessed.new.table) c.round-changed.result c.loop-rounds.rounds _ c.counts.ensures.fine c.loop-rounds.invariant.0 c.round-changed.ensures.says c.if-not-changed.false c.guess_ahead-guessed.ensures.nearer

pub loop-rounds-preserved-then-wait-eq0 : goal.loop-rounds-preserved-then-wait-eq0
loop-rounds-preserved-then-wait-eq0 c =
    let p = c.args.program.now in
    let k = counts_of p in
    let t = table_in k c.loop-rounds.table in
    let t' = table_in k c.round-changed.new.table in
    let t'' = table_in k c.guess_ahead-guessed.new.table in
    let inv = c.loop-rounds.invariant in
    let rounded : Came p t' c.saturating_add-rounds.result = subst (Came p t') (sym c.saturating_add-rounds.ensures) (came_more p t t' _ 1 c.round-changed.ensures.says.way inv.0) in
    let guessed = c.guess_ahead-guessed.ensures.nearer.came _ rounded in (
      subst (Came p t'') (sym c.saturating_add-rounds-then-wait-eq0.ensures) guessed,
      c.guess_ahead-guessed.ensures.writes (c.round-changed.ensures.writes inv.1),
    )

pub loop-rounds-smaller : goal.loop-rounds-smaller
loop-rounds-smaller c =
    let p = c.args.program.now in
    let k = counts_of p in
    round_less (row_p p) p (table_in k c.loop-rounds.table) (table_in k c.round-changed.new.table) c.round-changed.result c.loop-rounds.rounds c.counts.ensures.fine c.loop-rounds.invariant.0 c.round-changed.ensures.says c.if-not-changed.false
