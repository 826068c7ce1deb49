-- What every hop keeps, a sweep keeps; a round keeps a table sound, and one that changes nothing has come to the least.
use Rattle.std.proofs.Common.{◌≡◌, ℕ, zero, suc, ◌+◌, false, not, ◌||◌, T, List, [], ◌∷◌, length, set, replicate, ℤ, pos, Some, refl, ap, ◌∙◌, subst, ap₂, add-zero, zero-add, arith}
use mathlib.Core.Bool.{or-false}
use Rattle.std.specs.List.{slice_get, AllByRecursion}
use Rattle.std.proofs.lemmas.List.{length-set, set-get_or, length-replicate}
use Rattle.std.proofs.lemmas.Bool.{or_parts, not-false}
use Rattle.program.specs.declared.Step.{Step}
use Rattle.program.specs.Program.{Prog, counts_of}
use Rattle.program.specs.Rows.{Program, ok_i}
use Rattle.program.proofs.Results.{T_true, true-T}
use Rattle.interval.specs.declared.Range.{Range}
use Rattle.interval.specs.declared.Way.{Way}
use Rattle.interval.specs.declared.Way.TheVariants.{Jump, Next}
use Rattle.interval.specs.Ranges.{Box, At, never, within, makes, only, some_left, AtLeast}
use Rattle.interval.specs.Laws.{Proper, InBits, Bits1, Known, LongAt, ProperAt, BitsAt}
use Rattle.interval.proofs.Monotone.{at_least_refl, at_least_trans, makes_mono}
use Rattle.interval.proofs.Keeps.{makes_proper, makes_bits, makes-length}
use Rattle.table.specs.Tables.{Table, at, zeros, words_of, Holds}
use Rattle.table.proofs.Looks.{length-zeros}
use Rattle.table.proofs.Nothing.{nth-ok_i}
use Rattle.table.specs.Hops.{lands}
use Rattle.fixpoint.specs.Hops.{after, carries, sweep_from}
use Rattle.fixpoint.specs.Least.{Sound}
use Rattle.fixpoint.specs.Rounds.{join_at, covers, start, Round, join_into, round_hop, round, rounds}
use Rattle.fixpoint.specs.Says.{CoveredStays, StartSound, HopSound, RoundSound, RoundSame, RoundLast}
use Rattle.fixpoint.proofs.Hops.{set_keeps, sweep_keeps, holds_carries}
use Rattle.fixpoint.proofs.Joins.{covers_out, join_least, joined_least, join_same, join_proper, join_bits, join_long}

-- what a hop makes
after_known : (Q : Box → Type 0) (n : ℕ) (w : Way) (i : Step) (a : At) → ((b : Box) → Q b → Known Q (makes n w i b)) → Known Q a → Known Q (after n w i a)
after_known Q n w i never f h = tt
after_known Q n w i (within b) f h = f b h

pub carries_long : (p : Prog) (t : Table) (n : ℕ) (i : Step) (w : Way) → Sound p t → LongAt p.vars (carries p t n i w)
carries_long p t n i w h = after_known (λ b. length b ≡ p.vars) (words_of p i) w i (at t n) (λ b e. subst (λ k. LongAt k (makes (words_of p i) w i b)) e (makes-length (words_of p i) w i b)) (h.full n)

pub carries_proper : (p : Prog) (t : Table) (n : ℕ) (i : Step) (w : Way) → Sound p t → ProperAt (carries p t n i w)
carries_proper p t n i w h = after_known Proper (words_of p i) w i (at t n) (makes_proper (words_of p i) w i) (h.proper n)

pub carries_bits : (p : Prog) (t : Table) (n : ℕ) (i : Step) (w : Way) → T (ok_i (counts_of p) i) → Sound p t → BitsAt (carries p t n i w)
carries_bits p t n i w ok h = after_known InBits (words_of p i) w i (at t n) (λ b. makes_bits (counts_of p) (words_of p i) w i b ok) (h.bits n)

-- a table that holds contains what its own hops make, so what hops make of a table below it
after_mono : (n : ℕ) (w : Way) (i : Step) (a c : At) → ProperAt a → AtLeast a c → AtLeast (after n w i a) (after n w i c)
after_mono n w i never c q l = tt
after_mono n w i (within b) never q l = absurd l
after_mono n w i (within b) (within c) q l = makes_mono n w i b c q l

pub carries_below : (p : Prog) (t u : Table) (n : ℕ) (i : Step) (w : Way) → slice_get p.code n ≡ Some i → Sound p t → Holds p u → AtLeast (carries p t n i w) (at u (lands n i w))
carries_below p t u n i w e h k = at_least_trans (carries p t n i w) (carries p u n i w) (at u (lands n i w)) (after_mono (words_of p i) w i (at t n) (at u n) (h.proper n) (h.below u k n)) (holds_carries p u n i w k e)

-- a place may be widened by what every table that holds has there
pub joined_sound : (p : Prog) (m : ℕ) (made : At) (r : Round) → LongAt p.vars made → ProperAt made → BitsAt made → ((u : Table) → Holds p u → AtLeast made (at u m)) → Sound p r.table → Sound p (join_into m made r).table
joined_sound p m made r long proper bits below h =
    let t = r.table in
    let a = join_at (at t m) made in
    record {
      long = length-set t m a ∙ h.long;
      full = set_keeps (λ n. LongAt p.vars) t m a (join_long p.vars (at t m) made (h.full m) long) h.full;
      below = λ u k. set_keeps (λ n x. AtLeast x (at u n)) t m a (join_least (at t m) made (at u m) (h.below u k m) (below u k)) (h.below u k);
      proper = set_keeps (λ n. ProperAt) t m a (join_proper (at t m) made (h.proper m) proper) h.proper;
      bits = set_keeps (λ n. BitsAt) t m a (join_bits (at t m) made (h.bits m) bits) h.bits;
      start = at_least_trans (within (zeros p.vars)) (at t 0) (at (set t m a) 0) h.start (set_keeps (λ n x. AtLeast (at t n) x) t m a (joined_least p.vars (at t m) made (h.full m) long) (λ n. at_least_refl (at t n)) 0);
    }

pub hop_sound : HopSound
hop_sound s p n i w r is e h =
    let t = r.table in
    joined_sound p (lands n i w) (carries p t n i w) r (carries_long p t n i w h) (carries_proper p t n i w h) (carries_bits p t n i w (nth-ok_i s p n i is e) h) (λ u k. carries_below p t u n i w e h k) h

pub round_sound : RoundSound
round_sound s p t is h = sweep_keeps (λ r. Sound p r.table) (round_hop p) p (λ n i w r e k. hop_sound s p n i w r is e k) _ h

pub rounds_sound : (s : List ℤ) (p : Prog) (k : ℕ) (t : Table) → Program s p → Sound p t → Sound p (rounds k p t)
rounds_sound s p zero t is h = h
rounds_sound s p (suc k) t is h = rounds_sound s p k (round p t).table is (round_sound s p t is h)

-- the start
zeros-all : (P : Range → Type 0) → P (only (pos 0)) → (k : ℕ) → AllByRecursion P (zeros k)
zeros-all P p zero = tt
zeros-all P p (suc k) = (p, zeros-all P p k)

start_keeps : (P : ℕ → At → Type 0) (p : Prog) → P 0 (within (zeros p.vars)) → ((n : ℕ) → P n never) → (n : ℕ) → P n (at (start p) n)
start_keeps P p h k zero = h
start_keeps P p h k (suc n) = go (length p.code) n (k (suc n))
  where
    go : (m j : ℕ) → P (suc n) never → P (suc n) (at (replicate m never) j)
    go zero j q = q
    go (suc m) zero q = q
    go (suc m) (suc j) q = go m j q

pub start_sound : StartSound
start_sound p = record {
  long = let e = length-replicate (length p.code) never in omega arith;
  full = start_keeps (λ n. LongAt p.vars) p (length-zeros p.vars) (λ n. tt);
  below = λ u k. start_keeps (λ n a. AtLeast a (at u n)) p k.start (λ n. tt);
  proper = start_keeps (λ n. ProperAt) p (zeros-all (λ r. T (some_left r)) tt p.vars) (λ n. tt);
  bits = start_keeps (λ n. BitsAt) p (zeros-all Bits1 (tt, tt) p.vars) (λ n. tt);
  start = at_least_refl (within (zeros p.vars));
}

-- what lies inside what is there changes nothing
pub covered_stays : CoveredStays
covered_stays n made r h =
    let there = at r.table n in
    ap₂ (λ t c. record { table = t; changed = c }) (ap (set r.table n) (join_same there made (covers_out made there h)) ∙ set-get_or r.table n never) (ap (λ c. r.changed || not c) (T_true (covers made there) h) ∙ or-false r.changed)

-- a hop after which nothing has changed: nothing had, and what it makes lies inside what was there
unchanged : (n : ℕ) (made : At) (r : Round) → (join_into n made r).changed ≡ false → (r.changed ≡ false) × T (covers made (at r.table n)) × (join_into n made r ≡ r)
unchanged n made r e =
    let parts = or_parts r.changed (not (covers made (at r.table n))) e in
    let h = true-T (covers made (at r.table n)) (not-false _ parts.1) in
    (parts.0, h, covered_stays n made r h)

-- what a hop makes lies inside what is there
abbrev Covered : Prog → Table → ℕ → Step → Way → Type 0
Covered p t n i w = T (covers (carries p t n i w) (at t (lands n i w)))

both_ways : (P : Way → Type 0) → P Jump → P Next → (w : Way) → P w
both_ways P h k Jump = h
both_ways P h k Next = k

-- P of the first step and of those behind it
each_more : (P : ℕ → Step → Type 0) (m : ℕ) (i : Step) (is : List Step) → P m i → ((k : ℕ) (j : Step) → slice_get is k ≡ Some j → P (m + 1 + k) j) → (k : ℕ) (j : Step) → slice_get (i ∷ is) k ≡ Some j → P (m + k) j
each_more P m i is h f zero j e = let same : i ≡ j = cc in rw add-zero (subst (P m) same h)
each_more P m i is h f (suc k) j e = let next : m + 1 + k ≡ m + suc k = omega arith in subst (λ n. P n j) next (f k j e)

sweep_unchanged : (p : Prog) (m : ℕ) (is : List Step) (r : Round) → (sweep_from (round_hop p) m is r).changed ≡ false → (r.changed ≡ false) × (sweep_from (round_hop p) m is r ≡ r) × ((k : ℕ) (i : Step) → slice_get is k ≡ Some i → (w : Way) → Covered p r.table (m + k) i w)
sweep_unchanged p m [] r e = (e, refl, λ k i f. absurd (let z : ◌≡◌ {A = ℕ} 0 1 = cc in omega arith))
sweep_unchanged p m (i ∷ is) r e =
    let jumped = round_hop p m i Jump r in
    let rest = sweep_unchanged p (m + 1) is (round_hop p m i Next jumped) e in
    let next = unchanged (lands m i Next) (carries p jumped.table m i Next) jumped rest.0 in
    let jump = unchanged (lands m i Jump) (carries p r.table m i Jump) r next.0 in
    let same = next.2 ∙ jump.2 in
    let here = both_ways (Covered p r.table m i) jump.1 (subst (λ q. Covered p q.table m i Next) jump.2 next.1) in
    (jump.0, rest.1 ∙ same, each_more (λ n j. (w : Way) → Covered p r.table n j w) m i is here (λ k j f w. subst (λ q. Covered p q.table (m + 1 + k) j w) same (rest.2 k j f w)))

pub round_same : RoundSame
round_same p t e = ap (λ r. r.table) (sweep_unchanged p 0 p.code _ e).1

-- then each step is carried, so a sound table holds, and it is the least that does
round_carried : (p : Prog) (t : Table) → (round p t).changed ≡ false → (n : ℕ) (i : Step) (w : Way) (b : Box) → slice_get p.code n ≡ Some i → at t n ≡ within b → AtLeast (makes (words_of p i) w i b) (at t (lands n i w))
round_carried p t e n i w b there known =
    let here = rw zero-add at ((sweep_unchanged p 0 p.code _ e).2 n i there w) in
    subst (λ a. AtLeast (after (words_of p i) w i a) (at t (lands n i w))) known (covers_out (carries p t n i w) (at t (lands n i w)) here)

pub round_holds : (p : Prog) (t : Table) → Sound p t → (round p t).changed ≡ false → Holds p t
round_holds p t h e = record {
  long = h.long;
  start = h.start;
  steps = λ n i b there known. (round_carried p t e n i Jump b there known, (round_carried p t e n i Next b there known, tt));
  full = λ n b known. subst (LongAt p.vars) known (h.full n);
}

all-nth : (P : Range → Type 0) (b : Box) (i : ℕ) (r : Range) → AllByRecursion P b → slice_get b i ≡ Some r → P r
all-nth P [] i r h e = absurd (let z : ◌≡◌ {A = ℕ} 0 1 = cc in omega arith)
all-nth P (q ∷ b) zero r h e = let same : q ≡ r = cc in subst P same h.0
all-nth P (q ∷ b) (suc i) r h e = all-nth P b i r h.1 e

pub round_last : RoundLast
round_last p t h e = record {
  holds = round_holds p t h e;
  least = h.below;
  proper = λ n b i r known there. all-nth (λ r. T (some_left r)) b i r (subst ProperAt known (h.proper n)) there;
}
