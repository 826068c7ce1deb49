-- The ends of ranges, as the code finds them.
use Rattle.std.proofs.Common.{◌≡◌, ℕ, Bool, true, false, cond, not, ◌&&◌, ℤ, pos, ◌-ℤ◌, T, Some, None, refl, sym, ◌∙◌, arith}
use Rattle.std.specs.Int.{int_max, int_min}
use Rattle.std.specs.Bool.{then_some}
use Rattle.std.specs.Option.{option_or}
use Rattle.std.proofs.lemmas.Int.{clamps, to_z-of_z}
use Rattle.std.proofs.lemmas.Option.{same_Some, none-some}
use borrow.Author.Differences.{same_in}
use Rattle.number.specs.Numbers.{least, most, le_z, less_z, low, high, fit}
use Rattle.program.proofs.Results.{true-T}
use Rattle.interval.proofs.Order.{order}

pub max-most : (a b : ℤ) → int_max a b ≡ most a b
max-most a b = omega (arith, order, clamps, same_in)

pub min-least : (a b : ℤ) → int_min a b ≡ least a b
min-least a b = omega (arith, order, clamps, same_in)

pub below-places : (z : ℤ) (n : ℕ) → le_z z (pos n -ℤ pos 1) ≡ less_z z (pos n)
below-places z n = by (le_z z (pos n -ℤ pos 1)) (less_z z (pos n)) (λ h. omega (arith, order)) (λ h. omega (arith, order))
  where
    by : (s t : Bool) → (T s → T t) → (T t → T s) → s ≡ t
    by true true f g = refl
    by true false f g = absurd (f tt)
    by false true f g = absurd (g tt)
    by false false f g = refl

-- an end that has its place in 64 bits, or the last place towards it
pub lower-end : (z v : ℤ) → option_or (fit z) (then_some (less_z z (pos 0)) low) ≡ Some v → v ≡ most z low
lower-end z v = by (le_z low z) (le_z z high) (less_z z (pos 0)) refl refl refl
  where
    by : (s u t : Bool) → le_z low z ≡ s → le_z z high ≡ u → less_z z (pos 0) ≡ t → option_or (cond (s && u) (Some z) None) (then_some t low) ≡ Some v → v ≡ most z low
    by true true t a b d e = sym (same_Some z v e) ∙ omega (arith, order, same_in)
    by true false true a b d e = let n = true-T (less_z z (pos 0)) d in absurd (omega (arith, order))
    by true false false a b d e = absurd (none-some v e)
    by false u true a b d e = sym (same_Some low v e) ∙ omega (arith, order, same_in)
    by false u false a b d e = absurd (none-some v e)

pub upper-end : (z v : ℤ) → option_or (fit z) (then_some (not (less_z z (pos 0))) high) ≡ Some v → v ≡ least z high
upper-end z v = by (le_z low z) (le_z z high) (less_z z (pos 0)) refl refl refl
  where
    by : (s u t : Bool) → le_z low z ≡ s → le_z z high ≡ u → less_z z (pos 0) ≡ t → option_or (cond (s && u) (Some z) None) (then_some (not t) high) ≡ Some v → v ≡ least z high
    by true true t a b d e = sym (same_Some z v e) ∙ omega (arith, order, same_in)
    by true false false a b d e = sym (same_Some high v e) ∙ omega (arith, order, same_in)
    by true false true a b d e = absurd (none-some v e)
    by false u false a b d e = let n : T (le_z (pos 0) z) = rw d tt in absurd (omega (arith, order))
    by false u true a b d e = absurd (none-some v e)

pub ruleset ends = (to_z-of_z, max-most, min-least, below-places)
