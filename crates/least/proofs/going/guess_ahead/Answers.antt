use Rattle.std.proofs.Common.{◌≡◌, subst, sym, ◌∙◌, is_some}
use Rattle.program.specs.declared.Counts.{Counts}
use Rattle.program.specs.Program.{counts_of}
use Rattle.fixpoint.specs.Confirming.{Over}
use Rattle.fixpoint.specs.Joining.{table_in, Writes}
use Rattle.least.proofs.Counts.{taken_nearer}
use Rattle.least.proofs.going.guess_ahead.Goals as goal

pub returns-then-is_some : goal.returns-then-is_some
returns-then-is_some c =
    let p = c.args.program.now in
    let k = counts_of p in
    let t = c.args.table.now in
    let t' = c.take_over.new.table in
    let m = c.propose-guessed.new.guess in
    let exact = c.counts.ensures.exact in
    record {
      nearer = taken_nearer p (table_in k t) (table_in k m) (table_in k t') (is_some c.propose-guessed.result.after) _ (sym c.is_some.ensures ∙ c.if-is_some.true) c.propose-guessed.ensures (subst (λ (k : Counts). Over (table_in k t) (table_in k m) → table_in k t' ≡ table_in k m) exact c.take_over.ensures.taken);
      writes = subst (λ k. Writes k t t') exact c.take_over.ensures.writes;
    }
