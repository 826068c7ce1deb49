-- What a hop does to one place, and what every hop keeps, a sweep keeps.
use Rattle.std.proofs.Common.{◌≡◌, ℕ, zero, suc, ◌+◌, List, [], ◌∷◌, set, Some, refl, add-zero, zero-add, arith}
use Rattle.std.specs.List.{slice_get, AllByRecursion}
use Rattle.program.specs.declared.Step.{Step}
use Rattle.program.specs.Program.{Prog}
use Rattle.interval.specs.declared.Way.{Way}
use Rattle.interval.specs.declared.Way.TheVariants.{Jump, Next}
use Rattle.interval.specs.Ranges.{At, never, within, AtLeast}
use Rattle.table.specs.Tables.{Table, at, words_of, Holds}
use Rattle.table.specs.Hops.{lands}
use Rattle.fixpoint.specs.Hops.{after, carries, sweep_from, sweep}

-- what holds of each place, and of places that are not there
pub at_all : (P : At → Type 0) (t : Table) → P never → AllByRecursion P t → (n : ℕ) → P (at t n)
at_all P [] q h n = q
at_all P (a ∷ t) q h zero = h.0
at_all P (a ∷ t) q h (suc n) = at_all P t q h.1 n

-- P of each place, after one has been set
pub set_keeps : (P : ℕ → At → Type 0) (t : Table) (m : ℕ) (a : At) → P m a → ((n : ℕ) → P n (at t n)) → (n : ℕ) → P n (at (set t m a) n)
set_keeps P [] m a h k n = k n
set_keeps P (x ∷ t) zero a h k zero = h
set_keeps P (x ∷ t) zero a h k (suc n) = k (suc n)
set_keeps P (x ∷ t) (suc m) a h k zero = k zero
set_keeps P (x ∷ t) (suc m) a h k (suc n) = set_keeps (λ j. P (suc j)) t m a h (λ j. k (suc j)) n

-- what every hop of a program keeps, a sweep over it keeps
pub sweep_keeps : {A : Type 0} (P : A → Type 0) (f : ℕ → Step → Way → A → A) (p : Prog) → ((n : ℕ) (i : Step) (w : Way) (a : A) → slice_get p.code n ≡ Some i → P a → P (f n i w a)) → (a : A) → P a → P (sweep f p a)
sweep_keeps {A} P f p hop a h = go 0 p.code (λ k i e. rw zero-add e) a h
  where
    go : (m : ℕ) (is : List Step) → ((k : ℕ) (i : Step) → slice_get is k ≡ Some i → slice_get p.code (m + k) ≡ Some i) → (a : A) → P a → P (sweep_from f m is a)
    go m [] there a h = h
    go m (i ∷ is) there a h =
        let here : slice_get p.code m ≡ Some i = rw add-zero at (there 0 i refl) in
        go (m + 1) is (λ k j e. let next : m + 1 + k ≡ m + suc k = omega arith in rw next (there (suc k) j e)) _ (hop m i Next _ here (hop m i Jump a here h))

-- a table that holds contains what a hop makes of it
pub holds_carries : (p : Prog) (u : Table) (n : ℕ) (i : Step) (w : Way) → Holds p u → slice_get p.code n ≡ Some i → AtLeast (carries p u n i w) (at u (lands n i w))
holds_carries p u n i w h e = go (at u n) refl w
  where
    go : (a : At) → at u n ≡ a → (w : Way) → AtLeast (after (words_of p i) w i a) (at u (lands n i w))
    go never q w = tt
    go (within b) q Jump = (h.steps n i b e q).0
    go (within b) q Next = (h.steps n i b e q).1.0
