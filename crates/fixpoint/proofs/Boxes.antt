-- What the loops over the ranges of a box go by.
use Rattle.std.proofs.Common.{◌≡◌, ℕ, zero, suc, ◌+◌, ◌<◌, Bool, true, false, not, ◌&&◌, ◌||◌, [], ◌∷◌, ◌++◌, length, get_or, take, drop, set, refl, ap, add-one, arith}
use mathlib.Core.Bool.{or_assoc}
use Rattle.interval.specs.declared.range.Range.{Range}
use Rattle.interval.specs.Ranges.{Box, any, join, inside1}
use Rattle.interval.proofs.Pairs.{length-box_of}
use Rattle.fixpoint.specs.Rounds.{join_box, covers_box}
use Rattle.fixpoint.specs.Confirming.{moved1, moved_box, wider_box}

-- joining
pub join_more : (b : Box) (k : ℕ) (q : Range) (c : Box) → k < length b → take (k + 1) (set b k (join (get_or b k any) q)) ++ join_box (drop (k + 1) (set b k (join (get_or b k any) q))) c ≡ take k b ++ join_box (drop k b) (q ∷ c)
join_more [] k q c l = absurd (omega arith)
join_more (r ∷ b) zero q c l = refl
join_more (r ∷ b) (suc k) q c l = rw add-one (ap (λ t. r ∷ t) (rw add-one at (join_more b k q c (omega arith))))

pub covers_more : (b : Box) (k : ℕ) (q : Range) (c : Box) (t : Bool) → k < length b → ((t || not (inside1 q (get_or b k any))) || not (covers_box c (drop (k + 1) (set b k (join (get_or b k any) q))))) ≡ (t || not (covers_box (q ∷ c) (drop k b)))
covers_more [] k q c t l = absurd (omega arith)
covers_more (r ∷ b) zero q c t l = not_and t (inside1 q r) (covers_box c b)
  where
    not_and : (t x y : Bool) → ((t || not x) || not y) ≡ (t || not (x && y))
    not_and true x y = refl
    not_and false true y = refl
    not_and false false y = refl
covers_more (r ∷ b) (suc k) q c t l = rw add-one (rw add-one at (covers_more b k q c t (omega arith)))

pub ruleset joins = (length-box_of, join_more, covers_more)

-- moving towards a guess: here are the ranges that are left of it and of what a hop makes of it and of the box
pub moved_more : (b : Box) (k : ℕ) (g q o : Range) (m mm ms : Box) → k < length b → take (k + 1) (set b k (moved1 g q o (get_or b k any))) ++ moved_box m mm ms (drop (k + 1) (set b k (moved1 g q o (get_or b k any)))) ≡ take k b ++ moved_box (g ∷ m) (q ∷ mm) (o ∷ ms) (drop k b)
moved_more [] k g q o m mm ms l = absurd (omega arith)
moved_more (r ∷ b) zero g q o m mm ms l = refl
moved_more (r ∷ b) (suc k) g q o m mm ms l = rw add-one (ap (λ t. r ∷ t) (rw add-one at (moved_more b k g q o m mm ms (omega arith))))

pub wider_more : (b : Box) (k : ℕ) (g q o : Range) (m mm ms : Box) (t : Bool) → k < length b → ((t || not (inside1 (moved1 g q o (get_or b k any)) (get_or b k any))) || wider_box (moved_box m mm ms (drop (k + 1) (set b k (moved1 g q o (get_or b k any))))) (drop (k + 1) (set b k (moved1 g q o (get_or b k any))))) ≡ (t || wider_box (moved_box (g ∷ m) (q ∷ mm) (o ∷ ms) (drop k b)) (drop k b))
wider_more [] k g q o m mm ms t l = absurd (omega arith)
wider_more (r ∷ b) zero g q o m mm ms t l = or_assoc t (not (inside1 (moved1 g q o r) r)) (wider_box (moved_box m mm ms b) b)
wider_more (r ∷ b) (suc k) g q o m mm ms t l = rw add-one (rw add-one at (wider_more b k g q o m mm ms t (omega arith)))

pub ruleset moves = (length-box_of, moved_more, wider_more)
