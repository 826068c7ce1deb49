-- The order of whole numbers, for omega: a number z is read as up z - down z.
use Rattle.std.proofs.Common.{◌≡◌, suc, ◌+◌, ◌<◌, ◌≤◌, min, max, Bool, true, false, cond, not, ◌&&◌, T, ◌⊎◌, ℤ, pos, negsuc, ◌+ℤ◌, ◌-ℤ◌, ◌*ℤ◌, refl, subst, inl, inr, mul-le-mul_left, arith}
use borrow.Author.Differences.{up, down, same_in, lt_T, lt_not, lt_in, sum_is_lem, neg_is, product_is}
use Rattle.number.specs.Numbers.{less_z, le_z, least, most}
use Rattle.program.proofs.Results.{both, both-T, true-T}

abbrev pub Le : ℤ → ℤ → Type 0
Le a b = up a + down b ≤ up b + down a

abbrev pub Lt : ℤ → ℤ → Type 0
Lt a b = up a + down b < up b + down a

-- what a test tells, and what it takes to pass it
pub less_out : (a b : ℤ) → T (less_z a b) → Lt a b
less_out a b h = lt_T a b h

pub less_in : (a b : ℤ) → Lt a b → T (less_z a b)
less_in a b h = lt_in a b h

pub le_out : (a b : ℤ) → T (le_z a b) → Le a b
le_out a b h = lt_not b a h

pub le_in : (a b : ℤ) → Le a b → T (le_z a b)
le_in a b h = by (less_z b a) (λ t. let l = less_out b a t in omega arith)
  where
    by : (t : Bool) → (T t → ⊥) → T (not t)
    by true n = n tt
    by false n = tt

pub both_out : (a b c d : ℤ) → T (le_z a b && le_z c d) → Le a b × Le c d
both_out a b c d h = let k = both (le_z a b) (le_z c d) h in (le_out a b k.0, le_out c d k.1)

pub both_in : (a b c d : ℤ) → Le a b × Le c d → T (le_z a b && le_z c d)
both_in a b c d h = both-T (le_z a b) (le_z c d) (le_in a b h.0) (le_in c d h.1)

pub le_true : (a b : ℤ) → le_z a b ≡ true → Le a b
le_true a b e = le_out a b (true-T (le_z a b) e)

pub le_false : (a b : ℤ) → le_z a b ≡ false → Lt b a
le_false a b e = less_out b a (by (less_z b a) e)
  where
    by : (t : Bool) → not t ≡ false → T t
    by true q = tt
    by false q = subst T q tt

-- the smaller and the larger of two
pub least_is : (x y : ℤ) → up (least x y) + down x + down y ≡ down (least x y) + min (up x + down y) (up y + down x)
least_is x y = by (le_z x y) refl
  where
    by : (t : Bool) → le_z x y ≡ t → up (cond t x y) + down x + down y ≡ down (cond t x y) + min (up x + down y) (up y + down x)
    by true e = let l = le_true x y e in omega arith
    by false e = let l = le_false x y e in omega arith

pub most_is : (x y : ℤ) → up (most x y) + down x + down y ≡ down (most x y) + max (up x + down y) (up y + down x)
most_is x y = by (le_z x y) refl
  where
    by : (t : Bool) → le_z x y ≡ t → up (cond t y x) + down x + down y ≡ down (cond t y x) + max (up x + down y) (up y + down x)
    by true e = let l = le_true x y e in omega arith
    by false e = let l = le_false x y e in omega arith

-- for omega: tests, two of them joined, least, most, sums and differences
pub ruleset order = (less_out, less_in, le_out, le_in, both_out, both_in, le_true, le_false, least_is, most_is, sum_is_lem, neg_is)

-- laws
pub le_refl : (a : ℤ) → T (le_z a a)
le_refl a = omega (arith, order)

pub le_trans : (a b c : ℤ) → T (le_z a b) → T (le_z b c) → T (le_z a c)
le_trans a b c h k = omega (arith, order)

pub le_antisym : (a b : ℤ) → T (le_z a b) → T (le_z b a) → a ≡ b
le_antisym a b h k = omega (arith, order, same_in)

pub le_total : (a b : ℤ) → T (le_z a b) ⊎ T (le_z b a)
le_total a b = by (le_z a b) refl
  where
    by : (t : Bool) → le_z a b ≡ t → T (le_z a b) ⊎ T (le_z b a)
    by true e = inl (true-T (le_z a b) e)
    by false e = inr (omega (arith, order))

pub sum_mono : (a b c d : ℤ) → T (le_z a b) → T (le_z c d) → T (le_z (a +ℤ c) (b +ℤ d))
sum_mono a b c d h k = omega (arith, order)

pub difference_mono : (a b c d : ℤ) → T (le_z a b) → T (le_z c d) → T (le_z (a -ℤ d) (b -ℤ c))
difference_mono a b c d h k = omega (arith, order)

-- a factor that is not negative keeps the order; one that is not positive turns it
pub product_keeps : (c a b : ℤ) → T (le_z (pos 0) c) → T (le_z a b) → T (le_z (c *ℤ a) (c *ℤ b))
product_keeps (pos n) a b s h = let l = mul-le-mul_left n (le_out a b h) in omega (arith, order, product_is)
product_keeps (negsuc n) a b s h = absurd s

pub product_turns : (c a b : ℤ) → T (le_z c (pos 0)) → T (le_z a b) → T (le_z (c *ℤ b) (c *ℤ a))
product_turns (pos n) a b s h = let z : n ≡ 0 = omega (arith, order) in rw z (omega (arith, order, product_is))
product_turns (negsuc n) a b s h = let l = mul-le-mul_left (suc n) (le_out a b h) in omega (arith, order, product_is)
