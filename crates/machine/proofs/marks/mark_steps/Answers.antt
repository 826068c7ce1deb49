use Rattle.std.proofs.Common.{◌≡◌, ◌+◌, ◌<◌, [], ◌∷◌, ◌++◌, length, take, set, sym, ap, ◌∙◌, add_assoc, arith, w64, SFits, to_z, of_z, rules}
use Rattle.std.proofs.lemmas.List.{append_assoc, append-nil, take_all, take_more_set}
use Rattle.std.proofs.lemmas.Int.{to_z-of_z}
use Rattle.program.specs.Reading.{width, widths}
use Rattle.program.proofs.Walk.{turn, ahead_none, ends_few}
use Rattle.table.specs.Rows.{row_t}
use Rattle.table.specs.Licences.{licensed}
use Rattle.machine.specs.Marks.{mark, marks_from}
use Rattle.machine.proofs.marks.mark_steps.Goals as goal

pub new-requires : goal.new-requires
new-requires c = omega (arith, c.loop-place.invariant.1, ends_few c.args.program.now c.steps-place-items.ensures.fine)

pub loop-place-preserved : goal.loop-place-preserved
loop-place-preserved c =
    let p = c.args.program.now in
    let k = c.in-Some.place.0 in
    let i = c.in-Some.step in
    let at = c.loop-place.at in
    let m = c.loop-place.marks in
    let after = c.next.new.self in
    let gives = c.in-Some.ensures.steps in
    let inv = c.loop-place.invariant in
    let turns = turn p c.loop-place.place-iterator after (c.in-Some.place, i) inv.0 gives in
    let room : k < length m = omega (arith, turns.there, c.requires, c.loop-place.auto.marks) in
    let place : after.place ≡ k + 1 = gives.2 ∙ ap (λ n. n + 1) (sym gives.1) in
    let vars = ap (λ k. k.vars) c.counts-counts.ensures.exact in (
      turns.ahead,
      ap (λ n. at + n + widths after.steps) c.width-at.ensures ∙ add_assoc at (width i) (widths after.steps) ∙ ap (λ is. at + widths is) (sym gives.0) ∙ inv.1,
      λ t f q.
          let sure = c.licensed-sure.ensures p t c.rows.ensures vars f (ap (λ v. row_t v t) vars ∙ q) turns.here in
          let this = mark (licensed p t k) at in
          let left = marks_from p t (k + 1) (at + width i) after.steps in
          let fits : SFits w64 c.new.result.0 = search rules in
          let written : to_z w64 (of_z w64 c.new.result.0) ≡ this = to_z-of_z w64 c.new.result.0 fits ∙ c.new.ensures ∙ ap (λ b. mark b at) sure in
          ap (λ n. take n (set m k (to_z w64 (of_z w64 c.new.result.0))) ++ marks_from p t n (at + c.width-at.result) after.steps) place
          ∙ ap (λ n. take (k + 1) (set m k (to_z w64 (of_z w64 c.new.result.0))) ++ marks_from p t (k + 1) (at + n) after.steps) c.width-at.ensures
          ∙ ap (λ r. r ++ left) (take_more_set m k _ room ∙ ap (λ z. take k m ++ z ∷ []) written)
          ∙ append_assoc (take k m) (this ∷ []) left
          ∙ ap (λ k. take k m ++ (mark (licensed p t k) at ∷ marks_from p t (k + 1) (at + width i) after.steps)) gives.1
          ∙ ap (λ is. take c.loop-place.place-iterator.place m ++ marks_from p t c.loop-place.place-iterator.place at is) (sym gives.0)
          ∙ inv.2 t f q,
    )

pub returns : goal.returns
returns c t f q =
    let p = c.args.program.now in
    let m = c.loop-place.marks in
    let ahead = c.loop-place.place-iterator in
    let none = c.in-None.ensures.steps.0 in
    let all = ahead_none p ahead c.loop-place.invariant.0 none in
    sym (append-nil m)
    ∙ ap (λ r. r ++ []) (sym (take_all ahead.place m (omega (arith, all, c.requires, c.loop-place.auto.marks))))
    ∙ ap (λ is. take ahead.place m ++ marks_from p t ahead.place c.loop-place.at is) (sym none)
    ∙ c.loop-place.invariant.2 t f q
