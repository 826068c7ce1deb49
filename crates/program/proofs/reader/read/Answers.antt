use Rattle.std.proofs.Common.{◌≡◌, cond, length, Ok, Err, sym, ap, ◌∙◌, subst}
use Rattle.std.proofs.lemmas.Result.{err_from_is_err_and}
use Rattle.std.proofs.lemmas.Bool.{eq-eqb, ne_eqb}
use Rattle.program.specs.declared.refusal.Reason.TheVariants.{Extra}
use Rattle.program.specs.Reading.{refused, ended}
use Rattle.program.specs.Says.{ReadPost}
use Rattle.program.proofs.Promises.{parts, found_ok, found-err, no_head, by_its_end, header_few}
use Rattle.program.proofs.reader.read.Goals as goal

pub returns-in_err-counts : goal.returns-in_err-counts
returns-in_err-counts c =
    let p = err_from_is_err_and c.from_residual.result c.from_residual.ensures.1 in
    let s = c.args.rows.now in
    subst (ReadPost s) (sym (p.1 ∙ ap Err p.2)) (found-err s _ (no_head s _ c.in_err-counts.ensures))

pub steps_end-requires : goal.steps_end-requires
steps_end-requires c = header_few c.args.rows.now _ c.in_ok-counts.ensures

pub returns-in_err-end : goal.returns-in_err-end
returns-in_err-end c =
    let p = err_from_is_err_and c.from_residual-in_err-end.result c.from_residual-in_err-end.ensures.1 in
    let s = c.args.rows.now in
    subst (ReadPost s) (sym (p.1 ∙ ap Err p.2)) (found-err s _ (by_its_end s _ (Err _) c.in_ok-counts.ensures c.in_err-end.ensures))

pub returns-then-end-rows : goal.returns-then-end-rows
returns-then-end-rows c =
    let s = c.args.rows.now in
    let end = c.in_ok-end.end in
    let k = c.in_ok-counts.counts in
    let so : refused end Extra ≡ ended s end k = sym (ap (λ b. cond b (Ok k) (refused end Extra)) (ne_eqb end (length s) c.if-end-rows.true)) in
    found-err s _ (so ∙ by_its_end s k (Ok end) c.in_ok-counts.ensures c.in_ok-end.ensures)

pub invariant_of-result : goal.invariant_of-result
invariant_of-result c =
    let s = c.args.rows.now in
    let end = c.in_ok-end.end in
    let k = c.in_ok-counts.counts in
    found_ok s k (sym (ap (λ b. cond b (Ok k) (refused end Extra)) (eq-eqb end (length s) c.if-end-rows.false)) ∙ by_its_end s k (Ok end) c.in_ok-counts.ensures c.in_ok-end.ensures)

pub returns : goal.returns
returns c =
    let s = c.args.rows.now in
    let end = c.in_ok-end.end in
    let k = c.in_ok-counts.counts in
    record { says = (found_ok s k (sym (ap (λ b. cond b (Ok k) (refused end Extra)) (eq-eqb end (length s) c.if-end-rows.false)) ∙ by_its_end s k (Ok end) c.in_ok-counts.ensures c.in_ok-end.ensures)).0; parts = parts }
