use Rattle.std.proofs.Common.{◌≡◌, ◌+◌, ◌≤◌, ◌<◌, [], ◌∷◌, ◌++◌, length, take, set, pos, sym, ap, ◌∙◌, refl, add_assoc, arith, rules, w64, to_z}
use Rattle.std.proofs.lemmas.List.{append_assoc, append-nil, take_more_set, drop-set-lt}
use Rattle.std.proofs.lemmas.Int.{to_z_pos}
use Rattle.program.specs.Reading.{width, widths, offsets_of}
use Rattle.program.proofs.Walk.{turn, ahead_all, ahead_none, ends_few}
use Rattle.program.proofs.reader.write_offsets.Goals as goal

pub loop-k-init : goal.loop-k-init
loop-k-init c =
    let all = c.into_iter-k-iterator.ensures.into_iter_gives ∙ c.steps-k-items.ensures.all in
    let arrays = ap (λ k. k.arrays) c.counts-at.ensures.exact in
    (ahead_all c.args.program.now _ all, rw (all, arrays) refl, rw (all, arrays) refl, refl)

pub overflow_cast-work : goal.overflow_cast-work
overflow_cast-work c =
    let few : c.loop-k.at ≤ 24595 = omega (arith, c.loop-k.invariant.1, ends_few c.args.program.now c.steps-k-items.ensures.fine) in
    search rules

pub overflow_add-at-in-loop-k : goal.overflow_add-at-in-loop-k
overflow_add-at-in-loop-k c =
    omega (arith, c.loop-k.invariant.1, ends_few c.args.program.now c.steps-k-items.ensures.fine, ap widths c.in-Some.ensures.steps.0, c.width-at.ensures)

pub loop-k-preserved : goal.loop-k-preserved
loop-k-preserved c =
    let p = c.args.program.now in
    let k = c.in-Some.field-0-0.0 in
    let i = c.in-Some.step in
    let at = c.loop-k.at in
    let w = c.loop-k.work in
    let gives = c.in-Some.ensures.steps in
    let inv = c.loop-k.invariant in
    let left = offsets_of (at + width i) c.next.new.self.steps in
    let t = turn p c.loop-k.k-iterator c.next.new.self (c.in-Some.field-0-0, i) inv.0 gives in
    let room : k < length w = omega (arith, t.there, c.requires, c.loop-k.auto.work) in
    let at-is : to_z w64 at ≡ pos at = to_z_pos w64 at (omega (arith, inv.1, ends_few p c.steps-k-items.ensures.fine)) in
    let place : c.next.new.self.place ≡ k + 1 = gives.2 ∙ ap (λ n. n + 1) (sym gives.1) in (
      t.ahead,
      ap (λ n. at + n + widths c.next.new.self.steps) c.width-at.ensures ∙ add_assoc at (width i) (widths c.next.new.self.steps) ∙ ap (λ is. at + widths is) (sym gives.0) ∙ inv.1,
      ap (λ n. take n (set w k (to_z w64 at)) ++ offsets_of (at + c.width-at.result) c.next.new.self.steps) place
          ∙ ap (λ n. take (k + 1) (set w k (to_z w64 at)) ++ offsets_of (at + n) c.next.new.self.steps) c.width-at.ensures
          ∙ ap (λ r. r ++ left) (take_more_set w k (to_z w64 at) room ∙ ap (λ z. take k w ++ z ∷ []) at-is)
          ∙ append_assoc (take k w) (pos at ∷ []) left
          ∙ ap (λ k. take k w ++ (pos at ∷ left)) gives.1
          ∙ ap (λ is. take c.loop-k.k-iterator.place w ++ offsets_of at is) (sym gives.0)
          ∙ inv.2,
      drop-set-lt (length p.code) w k (to_z w64 at) t.there ∙ inv.3,
    )

pub returns-clause-written : goal.returns-clause-written
returns-clause-written c =
    let p = c.args.program.now in
    let none = c.in-None.ensures.steps.0 in
    let w = c.loop-k.work in
    ap (λ n. take n w) (sym (ahead_none p c.loop-k.k-iterator c.loop-k.invariant.0 none)) ∙ sym (append-nil (take c.loop-k.k-iterator.place w)) ∙ ap (λ is. take c.loop-k.k-iterator.place w ++ offsets_of c.loop-k.at is) (sym none) ∙ c.loop-k.invariant.2

pub returns-clause-rest : goal.returns-clause-rest
returns-clause-rest c = c.loop-k.invariant.3
