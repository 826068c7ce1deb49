use Rattle.std.proofs.Common.{drop, sym, ap, ◌∙◌, arith}
use Rattle.std.proofs.lemmas.List.{take_rest}
use Rattle.interval.specs.Ranges.{never, within}
use Rattle.interval.specs.Boxes.{box_of}
use Rattle.interval.specs.Tests.{sure}
use Rattle.table.specs.Rows.{place_of}
use Rattle.table.proofs.Nothing.{nth-ok_i}
use Rattle.table.proofs.Loops.{place_known, place_never}
use Rattle.table.proofs.Licensing.{row_licensed, row_fits}
use Rattle.table.proofs.licence.licensed.Goals as goal
use Rattle.table.proofs.licence.licensed.Goals.{then-vars-gt64-via-then-vars-gt64, then-vars-gt64-via-else-vars-gt64+then-n-ge4096, then-vars-gt64-via-else-vars-gt64+else-n-ge4096+then-table-n}

pub returns-then-vars-gt64 : goal.returns-then-vars-gt64
returns-then-vars-gt64 c p t is same f e here =
    let fits = row_fits c.args.rows.now c.args.table.now p t c.args.vars c.args.place.0 c.args.step is same f e here in
    absurd (elim c.then-vars-gt64.branch [
      | then-vars-gt64-via-then-vars-gt64 w ↦ omega (arith, w.if-vars-gt64.true, fits.0)
      | then-vars-gt64-via-else-vars-gt64+then-n-ge4096 w ↦ omega (arith, w.if-n-ge4096.true, fits.1)
      | then-vars-gt64-via-else-vars-gt64+else-n-ge4096+then-table-n w ↦ omega (arith, w.if-table-n.true, fits.2)
    ])

pub returns-then-not-is_known : goal.returns-then-not-is_known
returns-then-not-is_known c p t is same f e here =
    let row = c.row_of-row.result.now in
    row_licensed c.args.rows.now c.args.table.now p t c.args.vars c.args.place.0 c.args.step is same f e here never
    (sym (ap place_of c.row_of-row.ensures.row) ∙ place_never row (omega (arith, c.row_of-row.ensures.long)) (sym c.is_known.ensures ∙ c.if-not-is_known.true))

pub returns : goal.returns
returns c p t is same f e here =
    let row = c.row_of-row.result.now in
    let step = c.args.step in
    c.sure.ensures
    ∙ ap (λ s. sure c.words_of.result (box_of s) step) (take_rest row 1)
    ∙ ap (λ n. sure n (box_of (drop 1 row)) step) (c.words_of.ensures.words p is (nth-ok_i c.args.rows.now p c.args.place.0 step is here))
    ∙ row_licensed c.args.rows.now c.args.table.now p t c.args.vars c.args.place.0 step is same f e here (within (box_of (drop 1 row)))
    (sym (ap place_of c.row_of-row.ensures.row) ∙ place_known row (omega (arith, c.row_of-row.ensures.long)) (sym c.is_known.ensures ∙ c.if-not-is_known.false))
