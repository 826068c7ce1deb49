use Rattle.std.proofs.Common.{replicate, pos, sym, ap, ◌∙◌}
use Rattle.fixpoint.proofs.Starts.{start_rows, start_written}
use Rattle.fixpoint.proofs.begin.start.Goals as goal

pub returns : goal.returns
returns c =
    let k = c.args.counts in
    let zeros = c.fill.ensures.after (λ y h. h) ∙ ap (λ n. replicate n (pos 0)) c.requires in
    record {
      rows = λ p e. start_rows k p c.fill.new.self e zeros ∙ sym c.set_known.ensures;
      table = λ p e. start_written k p c.set_known.new.row e (start_rows k p c.fill.new.self e zeros ∙ sym c.set_known.ensures);
    }
