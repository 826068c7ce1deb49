use Rattle.std.proofs.Common.{◌++◌, string_bytes, ap, ◌∙◌}
use Rattle.report.proofs.Lines.{number_lines, lines_nats}
use Rattle.report.proofs.list.list_arrays.Goals as goal

pub loop-k-init : goal.loop-k-init
loop-k-init c =
    let out = string_bytes c.args.out.now in
    ap (λ s. out ++ number_lines 0 s) c.arrays-n-items.ensures ∙ ap (λ r. out ++ r) (lines_nats 0 c.args.program.now.arrays)
