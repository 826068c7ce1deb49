-- What a step keeps: proper ranges, ends that have their place in 64 bits, one range for each variable, and the box that knows nothing.
use Rattle.std.proofs.Common.{◌≡◌, ℕ, zero, suc, Bool, true, false, cond, T, ltb, ◌⊎◌, [], ◌∷◌, length, get_or, set, ℤ, refl, ap, ◌∙◌, subst, inl, inr, arith}
use Rattle.std.specs.List.{AllByRecursion}
use Rattle.std.proofs.lemmas.List.{length-set}
use Rattle.std.proofs.ByRecursion.{All-set}
use Rattle.number.specs.Numbers.{in64}
use Rattle.program.specs.declared.Counts.{Counts}
use Rattle.program.specs.declared.Step.{Step}
use Rattle.program.specs.declared.Step.TheVariants.{Set, Add, Sub, Mul, Load, Store, Ask, Show, Go, Less, Stop}
use Rattle.program.specs.declared.Operand.{Operand}
use Rattle.program.specs.declared.Operand.TheVariants.{Num, Var}
use Rattle.program.specs.declared.Var.{Var as VarT}
use Rattle.program.specs.Rows.{ok_i}
use Rattle.program.proofs.Results.{both}
use Rattle.interval.specs.declared.range.Range.{Range}
use Rattle.interval.specs.declared.transfers.Way.{Way}
use Rattle.interval.specs.declared.transfers.Way.TheVariants.{Jump, Next}
use Rattle.interval.specs.Ranges.{Box, At, never, within, any, only, range, cut, some_left, plus, minus, scaled, held, inside, narrowed, and_then, makes, inside1, Inside, AtLeast}
use Rattle.interval.proofs.Order.{order}
use Rattle.interval.specs.Laws.{Proper, Bits1, InBits, anys, Known, BitsAt, ProperAt, LongAt}
use Rattle.interval.proofs.Monotone.{get-all, get_mono, set_mono, inside_refl}

-- Q of a box goes by P of its ranges. Where two ranges are cut to each other and something is left, P of one of them is enough.
pub record Kept (P : Range → Type 0) (Q : Box → Type 0) : Type 0 where
  pub get : (b : Box) (x : ℕ) → Q b → P (get_or b x any)
  pub put : (b : Box) (x : ℕ) (r : Range) → P r → Q b → Q (set b x r)
  pub whole : P any
  pub cuts : (r q : Range) → P r ⊎ P q → T (some_left (cut r q)) → P (cut r q)

module _ (P : Range → Type 0) (Q : Box → Type 0) (k : Kept P Q) where
  cond_keeps : (t : Bool) (b : Box) → (T t → Q b) → Known Q (cond t (within b) never)
  cond_keeps true b h = h tt
  cond_keeps false b h = tt

  held_keeps : (b : Box) (x : ℕ) (r q : Range) → P r ⊎ P q → Q b → Known Q (held b x (cut r q))
  held_keeps b x r q p h = cond_keeps (some_left (cut r q)) _ (λ s. k.put b x (cut r q) (k.cuts r q p s) h)

  narrowed_keeps : (b : Box) (e : Operand) (r : Range) → Q b → Known Q (narrowed b e r)
  narrowed_keeps b (Num z) r h = cond_keeps _ b (λ _. h)
  narrowed_keeps b (Var x) r h = held_keeps b x.0 (get_or b x.0 any) r (inl (k.get b x.0 h)) h

  then_keeps : (a : At) (f : Box → At) → Known Q a → ((b : Box) → Q b → Known Q (f b)) → Known Q (and_then a f)
  then_keeps never f h g = tt
  then_keeps (within b) f h g = g b h

  both_keeps : (b : Box) (e f : Operand) (r q : Range) → Q b → Known Q (and_then (narrowed b e r) (λ c. narrowed c f q))
  both_keeps b e f r q h = then_keeps (narrowed b e r) _ (narrowed_keeps b e r h) (λ c g. narrowed_keeps c f q g)

  -- a number that a variable is set to comes from no box, so P is asked of it
  pub makes_keeps : (n : ℕ) (w : Way) (i : Step) (b : Box) → ((x : VarT) (z : ℤ) → i ≡ Set x (Num z) → P (only z)) → Q b → Known Q (makes n w i b)
  makes_keeps n Jump (Set x e) b s h = tt
  makes_keeps n Jump (Add x e f) b s h = tt
  makes_keeps n Jump (Sub x e f) b s h = tt
  makes_keeps n Jump (Mul x z e) b s h = tt
  makes_keeps n Jump (Load x a e) b s h = tt
  makes_keeps n Jump (Store a e f) b s h = tt
  makes_keeps n Jump (Ask x) b s h = tt
  makes_keeps n Jump (Show e) b s h = tt
  makes_keeps n Jump (Go t) b s h = h
  makes_keeps n Jump (Less e f t) b s h = both_keeps b e f _ _ h
  makes_keeps n Jump Stop b s h = tt
  makes_keeps n Next (Set x (Num z)) b s h = k.put b x.0 (only z) (s x z refl) h
  makes_keeps n Next (Set x (Var y)) b s h = k.put b x.0 _ (k.get b y.0 h) h
  makes_keeps n Next (Add x e f) b s h = held_keeps b x.0 (plus (range b e) (range b f)) any (inr k.whole) h
  makes_keeps n Next (Sub x e f) b s h = held_keeps b x.0 (minus (range b e) (range b f)) any (inr k.whole) h
  makes_keeps n Next (Mul x z e) b s h = held_keeps b x.0 (scaled z (range b e)) any (inr k.whole) h
  makes_keeps n Next (Load x a e) b s h = then_keeps (narrowed b e (inside n)) _ (narrowed_keeps b e (inside n) h) (λ c g. k.put c x.0 any k.whole g)
  makes_keeps n Next (Store a e f) b s h = narrowed_keeps b e (inside n) h
  makes_keeps n Next (Ask x) b s h = k.put b x.0 any k.whole h
  makes_keeps n Next (Show e) b s h = h
  makes_keeps n Next (Go t) b s h = tt
  makes_keeps n Next (Less e f t) b s h = both_keeps b e f _ _ h
  makes_keeps n Next Stop b s h = tt

-- the number that a step of a program sets a variable to
pub set_fits : (c : Counts) (i : Step) (x : VarT) (z : ℤ) → T (ok_i c i) → i ≡ Set x (Num z) → T (in64 z)
set_fits c i x z h e = (both (ltb x.0 c.vars) (in64 z) (subst (λ j. T (ok_i c j)) e h)).1

all_kept : (P : Range → Type 0) → P any → ((r q : Range) → P r ⊎ P q → T (some_left (cut r q)) → P (cut r q)) → Kept P (AllByRecursion P)
all_kept P p f = record { get = λ b x h. get-all P b x p h; put = λ b x r q h. All-set P b x r q h; whole = p; cuts = f }

pub makes_proper : (n : ℕ) (w : Way) (i : Step) (b : Box) → Proper b → ProperAt (makes n w i b)
makes_proper n w i b h = makes_keeps _ Proper (all_kept (λ r. T (some_left r)) tt (λ r q p s. s)) n w i b (λ x z e. omega (arith, order)) h

pub makes_bits : (c : Counts) (n : ℕ) (w : Way) (i : Step) (b : Box) → T (ok_i c i) → InBits b → BitsAt (makes n w i b)
makes_bits c n w i b ok h = makes_keeps Bits1 InBits (all_kept Bits1 (tt, tt) cuts) n w i b (λ x z e. let f = set_fits c i x z ok e in (f, f)) h
  where
    cuts : (r q : Range) → Bits1 r ⊎ Bits1 q → T (some_left (cut r q)) → Bits1 (cut r q)
    cuts r q (inl p) s = (omega (arith, order), omega (arith, order))
    cuts r q (inr p) s = (omega (arith, order), omega (arith, order))

pub makes-length : (n : ℕ) (w : Way) (i : Step) (b : Box) → LongAt (length b) (makes n w i b)
makes-length n w i b = makes_keeps (λ r. Unit {0}) (λ c. length c ≡ length b) (record { get = λ c x h. tt; put = λ c x r p h. length-set c x r ∙ h; whole = tt; cuts = λ r q p s. tt }) n w i b (λ x z e. tt) refl

-- knowing nothing
pub get-anys : (k x : ℕ) → get_or (anys k) x any ≡ any
get-anys zero x = refl
get-anys (suc k) zero = refl
get-anys (suc k) (suc x) = get-anys k x

pub set-anys : (k x : ℕ) → set (anys k) x any ≡ anys k
set-anys zero x = refl
set-anys (suc k) zero = refl
set-anys (suc k) (suc x) = ap (λ b. any ∷ b) (set-anys k x)

pub anys-all : (P : Range → Type 0) → P any → (k : ℕ) → AllByRecursion P (anys k)
anys-all P p zero = tt
anys-all P p (suc k) = (p, anys-all P p k)

pub bits_inside : (b : Box) → InBits b → Inside b (anys (length b))
bits_inside [] h = tt
bits_inside (r ∷ b) h = (omega (arith, order), bits_inside b h.1)

pub makes-inside-anys : (c : Counts) (k n : ℕ) (w : Way) (i : Step) (b : Box) → T (ok_i c i) → Inside b (anys k) → AtLeast (makes n w i b) (within (anys k))
makes-inside-anys c k n w i b ok h = by (makes n w i b) (makes_keeps (λ r. T (inside1 r any)) (λ d. Inside d (anys k)) (record { get = get; put = put; whole = tt; cuts = cuts }) n w i b (λ x z e. set_fits c i x z ok e) h)
  where
    get : (d : Box) (x : ℕ) → Inside d (anys k) → T (inside1 (get_or d x any) any)
    get d x l = subst (λ r. T (inside1 (get_or d x any) r)) (get-anys k x) (get_mono d (anys k) x l).fact

    put : (d : Box) (x : ℕ) (r : Range) → T (inside1 r any) → Inside d (anys k) → Inside (set d x r) (anys k)
    put d x r p l = subst (λ a. Inside (set d x r) a) (set-anys k x) (set_mono d (anys k) x l (record { fact = p }))

    cuts : (r q : Range) → T (inside1 r any) ⊎ T (inside1 q any) → T (some_left (cut r q)) → T (inside1 (cut r q) any)
    cuts r q (inl p) s = omega (arith, order)
    cuts r q (inr p) s = omega (arith, order)

    by : (a : At) → Known (λ d. Inside d (anys k)) a → AtLeast a (within (anys k))
    by never l = tt
    by (within d) l = l

pub makes-anys : (c : Counts) (k n : ℕ) (w : Way) (i : Step) → T (ok_i c i) → AtLeast (makes n w i (anys k)) (within (anys k))
makes-anys c k n w i ok = makes-inside-anys c k n w i (anys k) ok (inside_refl (anys k))
