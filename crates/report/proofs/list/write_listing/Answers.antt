use Rattle.std.proofs.Common.{string_bytes, ap, ◌∙◌, ◌++◌}
use Rattle.std.proofs.lemmas.Result.{IfOk-weaker}
use Rattle.report.specs.Listing.{variables_line, end_line}
use Rattle.report.proofs.Lines.{listing_parts}
use Rattle.report.proofs.list.write_listing.Goals as goal

pub returns : goal.returns
returns c =
    let exact = c.counts-counts.ensures.exact in
    let start = string_bytes c.args.out.now in
    IfOk-weaker c.write-2.result _ _
    (λ _ d.
    listing_parts c.args.program.now start _ _ _ _
    (c.in_ok-write.ensures.bytes ∙ ap (λ k. start ++ variables_line k.vars) exact)
    c.in_ok-list_arrays.ensures
    c.in_ok-list_steps.ensures
    (d ∙ ap (λ k. string_bytes c.list_steps.new.out ++ end_line k.steps) exact))
    c.write-2.ensures.bytes
