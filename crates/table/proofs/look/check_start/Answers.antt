use Rattle.std.proofs.Common.{◌≡◌, ◌-◌, ◌*◌, take, replicate, pos, ap, ◌∙◌, ap₂, arith, rules}
use Rattle.std.proofs.lemmas.List.{take-replicate}
use Rattle.interval.specs.Ranges.{within}
use Rattle.interval.specs.Boxes.{box_of}
use Rattle.table.specs.declared.fault.Fault.TheVariants.{Start}
use Rattle.table.specs.Tables.{zeros}
use Rattle.table.specs.Rows.{place_of}
use Rattle.table.specs.Looking.{missed, unless}
use Rattle.table.proofs.Loops.{zeros_are, mapped}
use Rattle.table.proofs.look.check_start.Goals as goal

pub returns : goal.returns
returns c =
    let v = c.args.vars in
    let all : 2 * v - 0 ≡ 2 * v = omega arith in
    let box : box_of (take (2 * v - 0) (replicate 128 (pos 0))) ≡ zeros v = ap (λ k. box_of (take k (replicate 128 (pos 0)))) all ∙ ap box_of (take-replicate (2 * v) 128 (pos 0) (omega (arith, c.requires.few))) ∙ zeros_are v in
    mapped Start c.covered.result c.map_err.result (λ h. search rules) (λ e h. search rules) _
    (c.covered.ensures ∙ ap unless (ap₂ (λ b a. missed (within b) a) box (ap place_of c.row_of.ensures.row)))
