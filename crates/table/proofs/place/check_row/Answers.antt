use Rattle.std.proofs.Common.{◌≡◌, true, get_or, pos, Some, None, sym, ap, ◌∙◌, rules, w64, SFits}
use Rattle.std.proofs.lemmas.Int.{to_z-of_z}
use Rattle.table.specs.Rows.{is_number}
use Rattle.table.specs.Looking.{unless}
use Rattle.table.proofs.Loops.{row_blank}
use Rattle.table.proofs.place.check_row.Goals as goal

pub returns-in-Some : goal.returns-in-Some
returns-in-Some c =
    let row = c.args.row.now in
    let fits : SFits w64 (get_or row 0 (pos 0)) = search rules in
    let zero : is_number 0 (get_or row 0 (pos 0)) ≡ true = ap (is_number 0) (sym (to_z-of_z w64 _ fits)) ∙ sym c.is_zero.ensures ∙ c.if-not-is_zero.false in
    ap unless (row_blank c.args.k row (Some c.in-Some.i) c.requires.some (sym c.is_known.ensures ∙ c.if-is_known.false) zero c.in-Some.ensures.first)

pub returns-in-None : goal.returns-in-None
returns-in-None c =
    let row = c.args.row.now in
    let fits : SFits w64 (get_or row 0 (pos 0)) = search rules in
    let zero : is_number 0 (get_or row 0 (pos 0)) ≡ true = ap (is_number 0) (sym (to_z-of_z w64 _ fits)) ∙ sym c.is_zero.ensures ∙ c.if-not-is_zero.false in
    ap unless (row_blank c.args.k row None c.requires.some (sym c.is_known.ensures ∙ c.if-is_known.false) zero c.in-None.ensures.first)
