-- What knows at least as much before a step knows at least as much after it.
use Rattle.std.proofs.Common.{ℕ, zero, suc, Bool, true, false, cond, ◌&&◌, T, [], ◌∷◌, get_or, set, ℤ, pos, negsuc, ◌+ℤ◌, ◌-ℤ◌, arith}
use Rattle.std.specs.List.{AllByRecursion}
use Rattle.number.specs.Numbers.{le_z, low, high}
use Rattle.program.specs.declared.Step.{Step}
use Rattle.program.specs.declared.Step.TheVariants.{Set, Add, Sub, Mul, Load, Store, Ask, Show, Go, Less, Stop}
use Rattle.program.specs.declared.Operand.{Operand}
use Rattle.program.specs.declared.Operand.TheVariants.{Num, Var}
use Rattle.program.specs.Reading.{variable}
use Rattle.interval.specs.declared.range.Range.{Range}
use Rattle.interval.specs.declared.transfers.Way.{Way}
use Rattle.interval.specs.declared.transfers.Way.TheVariants.{Jump, Next}
use Rattle.interval.specs.Ranges.{Box, At, never, within, any, only, range, cut, some_left, plus, minus, scaled, held, inside, narrowed, and_then, if_less, if_not, makes, inside1, Inside, AtLeast}
use Rattle.interval.specs.Laws.{Proper}
use Rattle.interval.proofs.Order.{order, product_keeps, product_turns}

pub get-all : (P : Range → Type 0) (b : Box) (x : ℕ) → P any → AllByRecursion P b → P (get_or b x any)
get-all P [] x p h = p
get-all P (r ∷ b) zero p h = h.0
get-all P (r ∷ b) (suc x) p h = get-all P b x p h.1

-- ranges, one inside another: a record, so that the ranges need not be written
pub record Part (r q : Range) : Type 0 where
  pub fact : T (inside1 r q)

pub part_refl : (r : Range) → Part r r
part_refl r = record { fact = omega (arith, order) }

pub part_trans : {r q p : Range} → Part r q → Part q p → Part r p
part_trans h k = record { fact = omega (arith, order) }

pub some_left_mono : {r q : Range} → Part r q → T (some_left r) → T (some_left q)
some_left_mono h k = omega (arith, order)

pub holds_mono : (z : ℤ) {r q : Range} → Part r q → T (le_z r.lo z && le_z z r.hi) → T (le_z q.lo z && le_z z q.hi)
holds_mono z h k = omega (arith, order)

pub cut_mono : {r q s t : Range} → Part r q → Part s t → Part (cut r s) (cut q t)
cut_mono h k = record { fact = omega (arith, order) }

pub plus_mono : {r q s t : Range} → Part r q → Part s t → Part (plus r s) (plus q t)
plus_mono h k = record { fact = omega (arith, order) }

pub minus_mono : {r q s t : Range} → Part r q → Part s t → Part (minus r s) (minus q t)
minus_mono h k = record { fact = omega (arith, order) }

-- the smaller range must not be turned
pub scaled_mono : (c : ℤ) {r q : Range} → T (some_left r) → Part r q → Part (scaled c r) (scaled c q)
scaled_mono (pos n) {r} {q} p h =
    let s : T (le_z (pos 0) (pos n)) = omega (arith, order) in
    let a = product_keeps (pos n) q.lo r.lo s (omega (arith, order)) in
    let b = product_keeps (pos n) r.lo r.hi s p in
    let c = product_keeps (pos n) r.hi q.hi s (omega (arith, order)) in
    record { fact = omega (arith, order) }
scaled_mono (negsuc n) {r} {q} p h =
    let a = product_turns (negsuc n) q.lo r.lo tt (omega (arith, order)) in
    let b = product_turns (negsuc n) r.lo r.hi tt p in
    let c = product_turns (negsuc n) r.hi q.hi tt (omega (arith, order)) in
    record { fact = omega (arith, order) }

-- boxes, one inside another
pub inside_refl : (b : Box) → Inside b b
inside_refl [] = tt
inside_refl (r ∷ b) = ((part_refl r).fact, inside_refl b)

pub inside_trans : (a b c : Box) → Inside a b → Inside b c → Inside a c
inside_trans [] [] c h k = k
inside_trans [] (q ∷ b) c h k = absurd h
inside_trans (r ∷ a) [] c h k = absurd h
inside_trans (r ∷ a) (q ∷ b) [] h k = absurd k
inside_trans (r ∷ a) (q ∷ b) (p ∷ c) h k = (omega (arith, order), inside_trans a b c h.1 k.1)

pub get_mono : (b c : Box) (x : ℕ) → Inside b c → Part (get_or b x any) (get_or c x any)
get_mono [] [] x h = part_refl any
get_mono [] (q ∷ c) x h = absurd h
get_mono (r ∷ b) [] x h = absurd h
get_mono (r ∷ b) (q ∷ c) zero h = record { fact = h.0 }
get_mono (r ∷ b) (q ∷ c) (suc x) h = get_mono b c x h.1

pub set_mono : (b c : Box) (x : ℕ) {r q : Range} → Inside b c → Part r q → Inside (set b x r) (set c x q)
set_mono [] [] x h k = tt
set_mono [] (t ∷ c) x h k = absurd h
set_mono (s ∷ b) [] x h k = absurd h
set_mono (s ∷ b) (t ∷ c) zero h k = (k.fact, h.1)
set_mono (s ∷ b) (t ∷ c) (suc x) h k = (h.0, set_mono b c x h.1 k)

pub range_mono : (b c : Box) (e : Operand) → Inside b c → Part (range b e) (range c e)
range_mono b c (Num z) h = part_refl (only z)
range_mono b c (Var x) h = get_mono b c x.0 h

-- what is known at places
pub at_least_refl : (a : At) → AtLeast a a
at_least_refl never = tt
at_least_refl (within b) = inside_refl b

pub at_least_trans : (a b c : At) → AtLeast a b → AtLeast b c → AtLeast a c
at_least_trans never b c h k = tt
at_least_trans (within a) never c h k = absurd h
at_least_trans (within a) (within b) never h k = absurd k
at_least_trans (within a) (within b) (within c) h k = inside_trans a b c h k

cond_mono : (s t : Bool) (b c : Box) → (T s → T t) → Inside b c → AtLeast (cond s (within b) never) (cond t (within c) never)
cond_mono true true b c h k = k
cond_mono true false b c h k = h tt
cond_mono false t b c h k = tt

pub held_mono : (b c : Box) (x : ℕ) {r q : Range} → Inside b c → Part r q → AtLeast (held b x r) (held c x q)
held_mono b c x {r} {q} h k = cond_mono (some_left r) (some_left q) _ _ (some_left_mono k) (set_mono b c x h k)

pub narrowed_mono : (b c : Box) (e : Operand) {r q : Range} → Inside b c → Part r q → AtLeast (narrowed b e r) (narrowed c e q)
narrowed_mono b c (Num z) h k = cond_mono _ _ b c (holds_mono z k) h
narrowed_mono b c (Var x) h k = held_mono b c x.0 h (cut_mono (get_mono b c x.0 h) k)

pub then_mono : (a a' : At) (k k' : Box → At) → AtLeast a a' → ((b c : Box) → Inside b c → AtLeast (k b) (k' c)) → AtLeast (and_then a k) (and_then a' k')
then_mono never a' k k' h g = tt
then_mono (within b) never k k' h g = absurd h
then_mono (within b) (within c) k k' h g = g b c h

both_narrowed_mono : (b c : Box) (e f : Operand) {r q s t : Range} → Inside b c → Part r q → Part s t → AtLeast (and_then (narrowed b e r) (λ d. narrowed d f s)) (and_then (narrowed c e q) (λ d. narrowed d f t))
both_narrowed_mono b c e f {r} {q} h k l = then_mono (narrowed b e r) (narrowed c e q) _ _ (narrowed_mono b c e h k) (λ b' c' i. narrowed_mono b' c' f i l)

-- what one operand's range asks of the other
up_to_mono : (a b : ℤ) → T (le_z a b) → Part (record { lo = low; hi = a }) (record { lo = low; hi = b })
up_to_mono a b h = record { fact = omega (arith, order) }

from_mono : (a b : ℤ) → T (le_z b a) → Part (record { lo = a; hi = high }) (record { lo = b; hi = high })
from_mono a b h = record { fact = omega (arith, order) }

pub if_less_mono : (b c : Box) (e f : Operand) → Inside b c → AtLeast (if_less b e f) (if_less c e f)
if_less_mono b c e f h =
    let i = range_mono b c e h in
    let j = range_mono b c f h in
    both_narrowed_mono b c e f h (up_to_mono ((range b f).hi -ℤ pos 1) ((range c f).hi -ℤ pos 1) (omega (arith, order))) (from_mono ((range b e).lo +ℤ pos 1) ((range c e).lo +ℤ pos 1) (omega (arith, order)))

pub if_not_mono : (b c : Box) (e f : Operand) → Inside b c → AtLeast (if_not b e f) (if_not c e f)
if_not_mono b c e f h =
    let i = range_mono b c e h in
    let j = range_mono b c f h in
    both_narrowed_mono b c e f h (from_mono (range b f).lo (range c f).lo (omega (arith, order))) (up_to_mono (range b e).hi (range c e).hi (omega (arith, order)))

-- a step
to-any : (b c : Box) (x : ℕ) {r q : Range} → Inside b c → Part r q → AtLeast (held b x (cut r any)) (held c x (cut q any))
to-any b c x h k = held_mono b c x h (cut_mono k (part_refl any))

pub range_proper : (b : Box) (e : Operand) → Proper b → T (some_left (range b e))
range_proper b (Num z) p = omega (arith, order)
range_proper b (Var x) p = get-all (λ r. T (some_left r)) b x.0 tt p

pub makes_mono : (n : ℕ) (w : Way) (i : Step) (b c : Box) → Proper b → Inside b c → AtLeast (makes n w i b) (makes n w i c)
makes_mono n Jump (Set x e) b c p h = tt
makes_mono n Jump (Add x e f) b c p h = tt
makes_mono n Jump (Sub x e f) b c p h = tt
makes_mono n Jump (Mul x z e) b c p h = tt
makes_mono n Jump (Load x a e) b c p h = tt
makes_mono n Jump (Store a e f) b c p h = tt
makes_mono n Jump (Ask x) b c p h = tt
makes_mono n Jump (Show e) b c p h = tt
makes_mono n Jump (Go t) b c p h = h
makes_mono n Jump (Less e f t) b c p h = if_less_mono b c e f h
makes_mono n Jump Stop b c p h = tt
makes_mono n Next (Set x e) b c p h = set_mono b c x.0 h (range_mono b c e h)
makes_mono n Next (Add x e f) b c p h = to-any b c x.0 h (plus_mono (range_mono b c e h) (range_mono b c f h))
makes_mono n Next (Sub x e f) b c p h = to-any b c x.0 h (minus_mono (range_mono b c e h) (range_mono b c f h))
makes_mono n Next (Mul x z e) b c p h = to-any b c x.0 h (scaled_mono z (range_proper b e p) (range_mono b c e h))
makes_mono n Next (Load x a e) b c p h = then_mono (narrowed b e (inside n)) (narrowed c e (inside n)) _ _ (narrowed_mono b c e h (part_refl (inside n))) (λ b' c' i. set_mono b' c' x.0 i (part_refl any))
makes_mono n Next (Store a e f) b c p h = narrowed_mono b c e h (part_refl (inside n))
makes_mono n Next (Ask x) b c p h = set_mono b c x.0 h (part_refl any)
makes_mono n Next (Show e) b c p h = h
makes_mono n Next (Go t) b c p h = tt
makes_mono n Next (Less e f t) b c p h = if_not_mono b c e f h
makes_mono n Next Stop b c p h = tt

-- A turned range scales to one that isn't: 5..3 lies in 4..3, and times 1 they are 3..5 and 3..4.
abbrev turned : ℤ → Box
turned z = record { lo = z; hi = pos 3 } ∷ []

abbrev once : Step
once = Mul (variable 0) (pos 1) (Var (variable 0))

pub mul_not_mono : (n : ℕ) → Inside (turned (pos 5)) (turned (pos 4)) × (AtLeast (makes n Next once (turned (pos 5))) (makes n Next once (turned (pos 4))) → ⊥)
mul_not_mono n = ((tt, tt), λ h. h.0)
