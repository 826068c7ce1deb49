-- A box and the numbers that it stands in.
use Rattle.std.proofs.Common.{◌≡◌, ℕ, zero, suc, ◌+◌, ◌*◌, ◌/◌, ◌<◌, List, [], ◌∷◌, length, get_or, set, ℤ, pos, refl, ap, arith}
use Rattle.std.proofs.lemmas.List.{get_or_past, set_past}
use Rattle.std.proofs.lemmas.Int.{to_z-of_z}
use Rattle.interval.specs.declared.range.Range.{Range}
use Rattle.interval.specs.Boxes.{box_of}

pub length-box_of : (s : List ℤ) → length (box_of s) ≡ length s / 2
length-box_of [] = omega arith
length-box_of (a ∷ []) = omega arith
length-box_of (a ∷ b ∷ s) = let e = length-box_of s in omega arith

pub box_at : (s : List ℤ) (x : ℕ) (d : Range) → x < length s / 2 → get_or (box_of s) x d ≡ record { lo = get_or s (2 * x) (pos 0); hi = get_or s (2 * x + 1) (pos 0) }
box_at [] x d l = absurd (omega arith)
box_at (a ∷ []) x d l = absurd (omega arith)
box_at (a ∷ b ∷ s) zero d l = refl
box_at (a ∷ b ∷ s) (suc x) d l =
    let e : 2 * suc x ≡ suc (suc (2 * x)) = omega arith in
    let f : suc (suc (2 * x)) + 1 ≡ suc (suc (2 * x + 1)) = omega arith in
    rw (e, f) (box_at s x d (omega arith))

pub box_set : (s : List ℤ) (x : ℕ) (a b : ℤ) → x < length s / 2 → box_of (set (set s (2 * x) a) (2 * x + 1) b) ≡ set (box_of s) x (record { lo = a; hi = b })
box_set [] x a b l = absurd (omega arith)
box_set (c ∷ []) x a b l = absurd (omega arith)
box_set (c ∷ d ∷ s) zero a b l = refl
box_set (c ∷ d ∷ s) (suc x) a b l =
    let e : 2 * suc x ≡ suc (suc (2 * x)) = omega arith in
    let f : suc (suc (2 * x)) + 1 ≡ suc (suc (2 * x + 1)) = omega arith in
    rw (e, f) (ap (λ t. record { lo = c; hi = d } ∷ t) (box_set s x a b (omega arith)))

-- for functions that go over the ranges of a box, and for those that look one up
pub ruleset pairs = (length-box_of)

pub ruleset places = (to_z-of_z, get_or_past, set_past, length-box_of, box_at, box_set)
