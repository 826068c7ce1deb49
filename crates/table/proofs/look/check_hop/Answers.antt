use Rattle.std.proofs.Common.{◌<◌, length, sym, ap, ◌∙◌, arith, rules}
use Rattle.std.specs.Option.{option_map}
use Rattle.interval.specs.Ranges.{within}
use Rattle.interval.specs.Boxes.{box_of}
use Rattle.table.specs.declared.fault.Fault.TheVariants.{NotCarried}
use Rattle.table.specs.Rows.{place_of, place_in}
use Rattle.table.specs.Looking.{missed, unless}
use Rattle.table.proofs.Loops.{mapped, hop_unknown, hop_known}
use Rattle.table.proofs.look.check_hop.Goals as goal

pub returns-then-not-is_known : goal.returns-then-not-is_known
returns-then-not-is_known c =
    let row = c.row_of-row.result.now in
    let some : 0 < length row = omega (arith, c.row_of-row.ensures.long) in
    sym (ap unless (hop_unknown c.args.words c.args.vars c.args.table.now c.args.hop row c.row_of-row.ensures.row some (sym c.is_known.ensures ∙ c.if-not-is_known.true)))

pub returns-in_default : goal.returns-in_default
returns-in_default c =
    let h = c.args.hop in
    let row = c.row_of-row.result.now in
    let some : 0 < length row = omega (arith, c.row_of-row.ensures.long) in
    let found = hop_known c.args.words c.args.vars c.args.table.now h row c.row_of-row.ensures.row some (sym c.is_known.ensures ∙ c.if-not-is_known.false) in
    sym (ap unless (found ∙ ap (λ a. option_map (NotCarried h.from h.to) (missed a (place_in c.args.vars c.args.table.now h.to.0))) (sym c.in_default.ensures)))

pub returns : goal.returns
returns c =
    let h = c.args.hop in
    let row = c.row_of-row.result.now in
    let some : 0 < length row = omega (arith, c.row_of-row.ensures.long) in
    let found = hop_known c.args.words c.args.vars c.args.table.now h row c.row_of-row.ensures.row some (sym c.is_known.ensures ∙ c.if-not-is_known.false) in
    mapped (NotCarried h.from h.to) c.covered.result c.map_err.result (λ h. search rules) (λ e h. search rules) _ (c.covered.ensures ∙ ap (λ a. unless (missed (within (box_of c.transfer.new.out)) a)) (ap place_of c.row_of.ensures.row))
    ∙ ap (λ a. unless (option_map (NotCarried h.from h.to) (missed a (place_in c.args.vars c.args.table.now h.to.0)))) c.in-Some.ensures
    ∙ sym (ap unless found)
