use Rattle.std.proofs.Common.{◌+◌, ◌<◌, ◌≤◌, ◌∷◌, ◌++◌, length, get_or, take, drop, set, pos, sym, ap, ◌∙◌, arith, w64, to_z}
use Rattle.std.proofs.lemmas.List.{append-nil, drop_all, drop_more, take_all}
use Rattle.program.specs.Rows.{row_p}
use Rattle.program.specs.Program.{total}
use Rattle.program.proofs.Whole.{few_words, length-nats}
use Rattle.machine.specs.Layout.{starts_from}
use Rattle.interpreter.proofs.Filling.{nats_at, total_more, added, written_more}
use Rattle.interpreter.proofs.memory.write_starts.Goals as goal

pub bounds-starts-k : goal.bounds-starts-k
bounds-starts-k c =
    let long = ap length c.arrays-n-items.ensures ∙ length-nats c.args.program.now.arrays in
    omega (arith, long, c.requires.room, c.loop-k.auto.starts, c.loop-k-test.true)

pub overflow_add-at : goal.overflow_add-at
overflow_add-at c =
    let p = c.args.program.now in
    let k = c.loop-k.k in
    let there : k < length p.arrays = omega (arith, ap length c.arrays-n-items.ensures ∙ length-nats p.arrays, c.loop-k-test.true) in
    let more = total_more p.arrays k there in
    let few = few_words (row_p p) p c.requires.program in
    let this = ap (λ s. get_or s k (pos 0)) c.arrays-n-items.ensures ∙ nats_at p.arrays k there in
    (added _ _ _ _ c.loop-k.invariant.0 this (omega (arith, more.1, few))).1

pub loop-k-preserved : goal.loop-k-preserved
loop-k-preserved c =
    let p = c.args.program.now in
    let ns = p.arrays in
    let k = c.loop-k.k in
    let starts = c.loop-k.starts in
    let before = total (take k ns) in
    let there : k < length ns = omega (arith, ap length c.arrays-n-items.ensures ∙ length-nats ns, c.loop-k-test.true) in
    let room : k < length starts = omega (arith, there, c.requires.room, c.loop-k.auto.starts) in
    let more = total_more ns k there in
    let few = few_words (row_p p) p c.requires.program in
    let this = ap (λ s. get_or s k (pos 0)) c.arrays-n-items.ensures ∙ nats_at ns k there in
    let at = to_z w64 c.loop-k.at-bits in
    let left = starts_from (before + get_or ns k 0) (drop (k + 1) ns) in (
      (added _ _ _ _ c.loop-k.invariant.0 this (omega (arith, more.1, few))).0 ∙ ap pos (sym more.0),
      ap (λ n. take (k + 1) (set starts k at) ++ starts_from n (drop (k + 1) ns)) more.0
          ∙ written_more starts left k at room
          ∙ ap (λ z. take k starts ++ (z ∷ left)) c.loop-k.invariant.0
          ∙ ap (λ ns. take k starts ++ starts_from before ns) (sym (drop_more ns k 0 there))
          ∙ c.loop-k.invariant.1,
    )

pub returns : goal.returns
returns c =
    let ns = c.args.program.now.arrays in
    let k = c.loop-k.k in
    let starts = c.loop-k.starts in
    let long = ap length c.arrays-n-items.ensures ∙ length-nats ns in
    let all : length ns ≤ k = omega (arith, long, c.loop-k-test.false) in
    sym (take_all k starts (omega (arith, all, c.requires.room, c.loop-k.auto.starts)))
    ∙ sym (append-nil (take k starts))
    ∙ ap (λ r. take k starts ++ starts_from (total (take k ns)) r) (sym (drop_all k ns all))
    ∙ c.loop-k.invariant.1
