-- A step carries growth on undiminished, as far as it does with the guess.
use Rattle.std.proofs.Common.{ℕ, zero, suc, ◌+◌, ◌*◌, ◌≤◌, min, Bool, true, false, cond, ◌&&◌, T, [], ◌∷◌, get_or, set, ℤ, pos, negsuc, ◌*ℤ◌, suc-mul, mul-le-mul_left, mul-add, arith}
use native.Mathlib.Decide.{dec_le}
use borrow.Author.Differences.{up, down, product_is}
use Rattle.number.specs.Numbers.{le_z, least, most}
use Rattle.program.specs.declared.Step.TheVariants.{Set, Add, Sub, Mul, Load, Store, Ask, Show, Go, Less, Stop}
use Rattle.program.specs.declared.Operand.{Operand}
use Rattle.program.specs.declared.Operand.TheVariants.{Num, Var}
use Rattle.interval.specs.declared.Range.{Range}
use Rattle.interval.specs.declared.Way.TheVariants.{Jump, Next}
use Rattle.interval.specs.Ranges.{Box, At, never, within, any, only, range, cut, some_left, plus, minus, scaled, held, inside, narrowed, and_then, if_less, if_not}
use Rattle.interval.proofs.Order.{order, product_keeps, product_turns}
use Rattle.interval.proofs.Monotone.{range_proper}
use Rattle.fixpoint.specs.Growth.{Grows1, Grows, GrowsAt, SteadyGrowth}

-- ranges
same_grows : (d : ℕ) (r : Range) → Grows1 d r r r
same_grows d r = omega (arith, order)

module _ {d : ℕ} {b m s c n v : Range} where
  cut_grows : Grows1 d b m s → Grows1 d c n v → Grows1 d (cut b c) (cut m n) (cut s v)
  cut_grows h k = omega (arith, order)

  plus_grows : Grows1 d b m s → Grows1 d c n v → Grows1 d (plus b c) (plus m n) (plus s v)
  plus_grows h k = omega (arith, order)

  minus_grows : Grows1 d b m s → Grows1 d c n v → Grows1 d (minus b c) (minus m n) (minus s v)
  minus_grows h k = omega (arith, order)

-- a whole multiple of a distance is no shorter
multiple : (n d a b : ℕ) → a + d ≤ b → suc n * a + d ≤ suc n * b
multiple n d a b h = let l = mul-le-mul_left (suc n) h in omega (arith, mul-add (suc n) a d, suc-mul n d)

-- An end y reaches x moved out by d, or m; so do the multiples. Each is read as the difference of two numbers, so that this goes for both ends.
steady : (n d xu xd mu md yu yd : ℕ) → min (xu + d + md) (mu + xd) + yd ≤ yu + xd + md → min (suc n * xu + d + suc n * md) (suc n * mu + suc n * xd) + suc n * yd ≤ suc n * yu + suc n * xd + suc n * md
steady n d xu xd mu md yu yd h = elim (dec_le (mu + yd) (yu + md)) [
  | yes l ↦ let k = mul-le-mul_left (suc n) l in omega (arith, mul-add (suc n) mu yd, mul-add (suc n) yu md)
  | no l ↦ let k = multiple n d (xu + yd) (yu + xd) (omega arith) in omega (arith, mul-add (suc n) xu yd, mul-add (suc n) yu xd)
]

-- ends in order, and ends that were turned
abbrev sorted : ℤ → ℤ → Range
sorted x y = record { lo = least x y; hi = most x y }

sorted_grows : {d : ℕ} {b m s : Range} → T (some_left b) → Grows1 d b m s → Grows1 d (sorted b.lo b.hi) (sorted m.lo m.hi) (sorted s.lo s.hi)
sorted_grows p h = omega (arith, order)

turned_grows : {d : ℕ} {b m s : Range} → T (some_left b) → Grows1 d b m s → Grows1 d (sorted b.hi b.lo) (sorted m.hi m.lo) (sorted s.hi s.lo)
turned_grows p h = omega (arith, order)

-- the smaller range must not be turned
scaled_grows : (c : ℤ) {d : ℕ} {b m s : Range} → T (some_left b) → Grows1 d b m s → Grows1 d (scaled c b) (scaled c m) (scaled c s)
scaled_grows c {d} {b} {m} {s} p h = by c
  where
    lower : (n : ℕ) → min (suc n * down b.lo + d + suc n * up m.lo) (suc n * down m.lo + suc n * up b.lo) + suc n * up s.lo ≤ suc n * down s.lo + suc n * up b.lo + suc n * up m.lo
    lower n = steady n d (down b.lo) (up b.lo) (down m.lo) (up m.lo) (down s.lo) (up s.lo) (omega (arith, order))

    upper : (n : ℕ) → min (suc n * up b.hi + d + suc n * down m.hi) (suc n * up m.hi + suc n * down b.hi) + suc n * down s.hi ≤ suc n * up s.hi + suc n * down b.hi + suc n * down m.hi
    upper n = steady n d (up b.hi) (down b.hi) (up m.hi) (down m.hi) (up s.hi) (down s.hi) (omega (arith, order))

    by : (c : ℤ) → Grows1 d (scaled c b) (scaled c m) (scaled c s)
    by (pos zero) = omega (arith, order, product_is)
    by (pos (suc n)) =
        let z : T (le_z (pos 0) (pos (suc n))) = omega (arith, order) in
        let f : Range → Range = λ r. record { lo = pos (suc n) *ℤ r.lo; hi = pos (suc n) *ℤ r.hi } in
        sorted_grows {b = f b} {m = f m} {s = f s} (product_keeps (pos (suc n)) b.lo b.hi z p) (record {
          lo_in = product_keeps (pos (suc n)) m.lo b.lo z h.lo_in;
          hi_in = product_keeps (pos (suc n)) b.hi m.hi z h.hi_in;
          lo_grows = let l = lower n in omega (arith, order, product_is);
          hi_grows = let l = upper n in omega (arith, order, product_is);
        })
    by (negsuc n) =
        let f : Range → Range = λ r. record { lo = negsuc n *ℤ r.hi; hi = negsuc n *ℤ r.lo } in
        turned_grows {b = f b} {m = f m} {s = f s} (product_turns (negsuc n) b.lo b.hi tt p) (record {
          lo_in = product_turns (negsuc n) b.hi m.hi tt h.hi_in;
          hi_in = product_turns (negsuc n) m.lo b.lo tt h.lo_in;
          lo_grows = let l = upper n in omega (arith, order, product_is);
          hi_grows = let l = lower n in omega (arith, order, product_is);
        })

-- boxes
get_grows : (d : ℕ) (b m s : Box) (x : ℕ) → Grows d b m s → Grows1 d (get_or b x any) (get_or m x any) (get_or s x any)
get_grows d [] [] [] x h = same_grows d any
get_grows d [] [] (v ∷ s) x h = absurd h
get_grows d [] (q ∷ m) s x h = absurd h
get_grows d (r ∷ b) [] s x h = absurd h
get_grows d (r ∷ b) (q ∷ m) [] x h = absurd h
get_grows d (r ∷ b) (q ∷ m) (v ∷ s) zero h = h.0
get_grows d (r ∷ b) (q ∷ m) (v ∷ s) (suc x) h = get_grows d b m s x h.1

set_grows : (d : ℕ) (b m s : Box) (x : ℕ) {r q v : Range} → Grows d b m s → Grows1 d r q v → Grows d (set b x r) (set m x q) (set s x v)
set_grows d [] [] [] x h k = tt
set_grows d [] [] (v ∷ s) x h k = absurd h
set_grows d [] (q ∷ m) s x h k = absurd h
set_grows d (r ∷ b) [] s x h k = absurd h
set_grows d (r ∷ b) (q ∷ m) [] x h k = absurd h
set_grows d (r ∷ b) (q ∷ m) (v ∷ s) zero h k = (k, h.1)
set_grows d (r ∷ b) (q ∷ m) (v ∷ s) (suc x) h k = (h.0, set_grows d b m s x h.1 k)

range_grows : (d : ℕ) (b m s : Box) (e : Operand) → Grows d b m s → Grows1 d (range b e) (range m e) (range s e)
range_grows d b m s (Num z) h = same_grows d (only z)
range_grows d b m s (Var x) h = get_grows d b m s x.0 h

-- what is known at places
cond_grows : (d : ℕ) (i j k : Bool) (b m s : Box) → (T i → T j) → (T i → T k) → Grows d b m s → GrowsAt d (cond i (within b) never) (cond j (within m) never) (cond k (within s) never)
cond_grows d true true true b m s f g h = h
cond_grows d true true false b m s f g h = g tt
cond_grows d true false k b m s f g h = f tt
cond_grows d false j k b m s f g h = tt

held_grows : (d : ℕ) (b m s : Box) (x : ℕ) {r q v : Range} → Grows d b m s → Grows1 d r q v → GrowsAt d (held b x r) (held m x q) (held s x v)
held_grows d b m s x {r} {q} {v} h k = cond_grows d (some_left r) (some_left q) (some_left v) _ _ _ (λ l. omega (arith, order)) (λ l. omega (arith, order)) (set_grows d b m s x h k)

narrowed_grows : (d : ℕ) (b m s : Box) (e : Operand) {r q v : Range} → Grows d b m s → Grows1 d r q v → GrowsAt d (narrowed b e r) (narrowed m e q) (narrowed s e v)
narrowed_grows d b m s (Num z) {r} {q} {v} h k = cond_grows d (le_z r.lo z && le_z z r.hi) (le_z q.lo z && le_z z q.hi) (le_z v.lo z && le_z z v.hi) b m s (λ l. omega (arith, order)) (λ l. omega (arith, order)) h
narrowed_grows d b m s (Var x) h k = held_grows d b m s x.0 h (cut_grows (get_grows d b m s x.0 h) k)

then_grows : (d : ℕ) (a m s : At) (f g k : Box → At) → GrowsAt d a m s → ((b c e : Box) → Grows d b c e → GrowsAt d (f b) (g c) (k e)) → GrowsAt d (and_then a f) (and_then m g) (and_then s k)
then_grows d never m s f g k h l = tt
then_grows d (within b) never s f g k h l = absurd h
then_grows d (within b) (within c) never f g k h l = absurd h
then_grows d (within b) (within c) (within e) f g k h l = l b c e h

-- a step from boxes that are related
module _ (d : ℕ) (b m s : Box) (h : Grows d b m s) where
  narrowed_then : (e : Operand) {r q v : Range} (f g k : Box → At) → Grows1 d r q v → ((b m s : Box) → Grows d b m s → GrowsAt d (f b) (g m) (k s)) → GrowsAt d (and_then (narrowed b e r) f) (and_then (narrowed m e q) g) (and_then (narrowed s e v) k)
  narrowed_then e {r} {q} {v} f g k i l = then_grows d (narrowed b e r) (narrowed m e q) (narrowed s e v) f g k (narrowed_grows d b m s e h i) l

  both_narrowed : (e f : Operand) {r q v r' q' v' : Range} → Grows1 d r q v → Grows1 d r' q' v' → GrowsAt d (and_then (narrowed b e r) (λ c. narrowed c f r')) (and_then (narrowed m e q) (λ c. narrowed c f q')) (and_then (narrowed s e v) (λ c. narrowed c f v'))
  both_narrowed e f i j = narrowed_then e _ _ _ i (λ b' m' s' k. narrowed_grows d b' m' s' f k j)

  if_less_grows : (e f : Operand) → GrowsAt d (if_less b e f) (if_less m e f) (if_less s e f)
  if_less_grows e f =
      let i = range_grows d b m s e h in
      let j = range_grows d b m s f h in
      both_narrowed e f (omega (arith, order)) (omega (arith, order))

  if_not_grows : (e f : Operand) → GrowsAt d (if_not b e f) (if_not m e f) (if_not s e f)
  if_not_grows e f =
      let i = range_grows d b m s e h in
      let j = range_grows d b m s f h in
      both_narrowed e f (omega (arith, order)) (omega (arith, order))

  to-any : (x : ℕ) {r q v : Range} → Grows1 d r q v → GrowsAt d (held b x (cut r any)) (held m x (cut q any)) (held s x (cut v any))
  to-any x k = held_grows d b m s x h (cut_grows k (same_grows d any))

pub makes_grows : SteadyGrowth
makes_grows n Jump (Set x e) d b m s p h = tt
makes_grows n Jump (Add x e f) d b m s p h = tt
makes_grows n Jump (Sub x e f) d b m s p h = tt
makes_grows n Jump (Mul x c e) d b m s p h = tt
makes_grows n Jump (Load x a e) d b m s p h = tt
makes_grows n Jump (Store a e f) d b m s p h = tt
makes_grows n Jump (Ask x) d b m s p h = tt
makes_grows n Jump (Show e) d b m s p h = tt
makes_grows n Jump (Go t) d b m s p h = h
makes_grows n Jump (Less e f t) d b m s p h = if_less_grows d b m s h e f
makes_grows n Jump Stop d b m s p h = tt
makes_grows n Next (Set x e) d b m s p h = set_grows d b m s x.0 h (range_grows d b m s e h)
makes_grows n Next (Add x e f) d b m s p h = to-any d b m s h x.0 (plus_grows (range_grows d b m s e h) (range_grows d b m s f h))
makes_grows n Next (Sub x e f) d b m s p h = to-any d b m s h x.0 (minus_grows (range_grows d b m s e h) (range_grows d b m s f h))
makes_grows n Next (Mul x c e) d b m s p h = to-any d b m s h x.0 (scaled_grows c (range_proper b e p) (range_grows d b m s e h))
makes_grows n Next (Load x a e) d b m s p h = narrowed_then d b m s h e _ _ _ (same_grows d (inside n)) (λ b' m' s' k. set_grows d b' m' s' x.0 k (same_grows d any))
makes_grows n Next (Store a e f) d b m s p h = narrowed_grows d b m s e h (same_grows d (inside n))
makes_grows n Next (Ask x) d b m s p h = set_grows d b m s x.0 h (same_grows d any)
makes_grows n Next (Show e) d b m s p h = h
makes_grows n Next (Go t) d b m s p h = tt
makes_grows n Next (Less e f t) d b m s p h = if_not_grows d b m s h e f
makes_grows n Next Stop d b m s p h = tt
