-- What confirming keeps: whatever holds and grows from t grows from the table that it moves, and no range is turned.
use Rattle.std.proofs.Common.{◌≡◌, ℕ, zero, suc, Bool, true, false, cond, T, [], ◌∷◌, pos, ◌+ℤ◌, ◌-ℤ◌, Some, arith}
use Rattle.std.specs.List.{slice_get}
use Rattle.number.specs.Numbers.{le_z, least, most}
use Rattle.program.specs.declared.Step.{Step}
use Rattle.program.specs.Program.{Prog}
use Rattle.interval.specs.declared.Range.{Range}
use Rattle.interval.specs.declared.Way.{Way}
use Rattle.interval.specs.Ranges.{Box, At, never, within, some_left, inside1, Inside, AtLeast}
use Rattle.interval.specs.Laws.{Proper, ProperAt}
use Rattle.interval.proofs.Order.{order}
use Rattle.table.specs.Tables.{Table, at, words_of}
use Rattle.table.specs.Hops.{lands}
use Rattle.fixpoint.specs.Hops.{after, carries}
use Rattle.fixpoint.specs.Least.{ProperT}
use Rattle.fixpoint.specs.Growth.{Grows1, Grows, GrowsAt}
use Rattle.fixpoint.specs.Confirming.{moved1, moved_box, moved_at, Confirming, confirm_hop, confirm_sweep, sweeps_of, Follows}
use Rattle.fixpoint.proofs.Growth.{makes_grows}
use Rattle.fixpoint.proofs.Hops.{set_keeps, sweep_keeps, holds_carries}

-- Where u grows from s, and from what the hop makes of s's box, u grows from s moved.
moved1_grows : {d : ℕ} {m mm ms s mu u : Range} → Grows1 d s m u → Grows1 d ms mm mu → T (inside1 mu u) → Grows1 d (moved1 m mm ms s) m u
moved1_grows {d} {m} {mm} {ms} {s} {mu} {u} h k l =
    let x = lo (le_z mm.lo m.lo) (λ t. t) in
    let y = hi (le_z m.hi mm.hi) (λ t. t) in
    record { lo_in = x.0; hi_in = y.0; lo_grows = x.1; hi_grows = y.1 }
  where
    lo : (t : Bool) → (T t → T (le_z mm.lo m.lo)) → T (le_z m.lo (cond t (least s.lo (most ms.lo m.lo)) s.lo)) × T (le_z u.lo (most (cond t (least s.lo (most ms.lo m.lo)) s.lo -ℤ pos d) m.lo))
    lo true f = let o = f tt in (omega (arith, order), omega (arith, order))
    lo false f = (h.lo_in, h.lo_grows)

    hi : (t : Bool) → (T t → T (le_z m.hi mm.hi)) → T (le_z (cond t (most s.hi (least ms.hi m.hi)) s.hi) m.hi) × T (le_z (least (cond t (most s.hi (least ms.hi m.hi)) s.hi +ℤ pos d) m.hi) u.hi)
    hi true f = let o = f tt in (omega (arith, order), omega (arith, order))
    hi false f = (h.hi_in, h.hi_grows)

moved_grows : (d : ℕ) (m mm ms s mu u : Box) → Grows d s m u → Grows d ms mm mu → Inside mu u → Grows d (moved_box m mm ms s) m u
moved_grows d m mm ms [] mu u h k l = h
moved_grows d [] mm ms (v ∷ s) mu u h k l = absurd h
moved_grows d (q ∷ m) mm ms (v ∷ s) mu [] h k l = absurd h
moved_grows d (q ∷ m) [] ms (v ∷ s) mu (x ∷ u) h k l = h
moved_grows d (q ∷ m) (r ∷ mm) [] (v ∷ s) mu (x ∷ u) h k l = h
moved_grows d (q ∷ m) (r ∷ mm) (o ∷ ms) (v ∷ s) [] (x ∷ u) h k l = absurd k
moved_grows d (q ∷ m) (r ∷ mm) (o ∷ ms) (v ∷ s) (y ∷ mu) (x ∷ u) h k l = (moved1_grows h.0 k.0 l.0, moved_grows d m mm ms s mu u h.1 k.1 l.1)

moved_at_grows : (d : ℕ) (m mm ms s mu u : At) → GrowsAt d s m u → GrowsAt d ms mm mu → AtLeast mu u → GrowsAt d (moved_at m mm ms s) m u
moved_at_grows d m mm ms never mu u h k l = tt
moved_at_grows d never mm ms (within s) mu u h k l = absurd h
moved_at_grows d (within m) mm ms (within s) mu never h k l = absurd h
moved_at_grows d (within m) never ms (within s) mu (within u) h k l = h
moved_at_grows d (within m) (within mm) never (within s) mu (within u) h k l = h
moved_at_grows d (within m) (within mm) (within ms) (within s) never (within u) h k l = absurd k
moved_at_grows d (within m) (within mm) (within ms) (within s) (within mu) (within u) h k l = moved_grows d m mm ms s mu u h k l

-- a range that is moved out stays proper
moved1_proper : (m mm ms s : Range) → T (some_left s) → T (some_left (moved1 m mm ms s))
moved1_proper m mm ms s h = go (le_z mm.lo m.lo) (le_z m.hi mm.hi)
  where
    go : (t u : Bool) → T (le_z (cond t (least s.lo (most ms.lo m.lo)) s.lo) (cond u (most s.hi (least ms.hi m.hi)) s.hi))
    go true true = omega (arith, order)
    go true false = omega (arith, order)
    go false true = omega (arith, order)
    go false false = h

moved_proper : (m mm ms s : Box) → Proper s → Proper (moved_box m mm ms s)
moved_proper m mm ms [] h = tt
moved_proper [] mm ms (v ∷ s) h = h
moved_proper (q ∷ m) [] ms (v ∷ s) h = h
moved_proper (q ∷ m) (r ∷ mm) [] (v ∷ s) h = h
moved_proper (q ∷ m) (r ∷ mm) (o ∷ ms) (v ∷ s) h = (moved1_proper q r o v h.0, moved_proper m mm ms s h.1)

moved_at_proper : (m mm ms s : At) → ProperAt s → ProperAt (moved_at m mm ms s)
moved_at_proper m mm ms never h = tt
moved_at_proper never mm ms (within s) h = h
moved_at_proper (within m) never ms (within s) h = h
moved_at_proper (within m) (within mm) never (within s) h = h
moved_at_proper (within m) (within mm) (within ms) (within s) h = moved_proper m mm ms s h

-- what a hop makes of places that are related
after_grows : (n : ℕ) (w : Way) (i : Step) (d : ℕ) (a m s : At) → ProperAt a → GrowsAt d a m s → GrowsAt d (after n w i a) (after n w i m) (after n w i s)
after_grows n w i d never m s p h = tt
after_grows n w i d (within b) never s p h = absurd h
after_grows n w i d (within b) (within m) never p h = absurd h
after_grows n w i d (within b) (within m) (within s) p h = makes_grows n w i d b m s p h

module _ (p : Prog) (t m : Table) where
  -- what confirming keeps of the table that it moves
  pub record Kept (s : Table) : Type 0 where
    pub follows : Follows p t m s
    pub proper : ProperT s

  hop_keeps : (n : ℕ) (i : Step) (w : Way) (c : Confirming) → slice_get p.code n ≡ Some i → Kept c.table → Kept (confirm_hop p m n i w c).table
  hop_keeps n i w c e k =
      let s = c.table in
      let to = lands n i w in
      record {
        follows = λ d u h g. set_keeps (λ n a. GrowsAt d a (at m n) (at u n)) s to _ (moved_at_grows d (at m to) (carries p m n i w) (carries p s n i w) (at s to) (carries p u n i w) (at u to) (k.follows d u h g to) (after_grows (words_of p i) w i d (at s n) (at m n) (at u n) (k.proper n) (k.follows d u h g n)) (holds_carries p u n i w h e)) (k.follows d u h g);
        proper = set_keeps (λ n a. ProperAt a) s to _ (moved_at_proper (at m to) (carries p m n i w) (carries p s n i w) (at s to) (k.proper to)) k.proper;
      }

  pub sweeps_keep : (k : ℕ) (s : Table) → Kept s → Kept (sweeps_of k p m s)
  sweeps_keep zero s h = h
  sweeps_keep (suc k) s h = sweeps_keep k (confirm_sweep p m s).table (sweep_keeps (λ c. Kept c.table) (confirm_hop p m) p hop_keeps (record { table = s; moved = false }) h)
