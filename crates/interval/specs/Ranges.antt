-- Ranges for variables, and what a step makes of them.
use Rattle.std.specs.Prelude.{ℕ, Bool, cond, ◌&&◌, T, List, [], ◌∷◌, ℤ, pos, ◌+ℤ◌, ◌-ℤ◌, ◌*ℤ◌, slice_index_or, slice_set}
use Rattle.number.specs.Numbers.{le_z, least, most, low, high}
use Rattle.program.specs.declared.Step.{Step}
use Rattle.program.specs.declared.Step.TheVariants.{Set, Add, Sub, Mul, Load, Store, Ask, Show, Go, Less, Stop}
use Rattle.program.specs.declared.Operand.{Operand}
use Rattle.program.specs.declared.Operand.TheVariants.{Num, Var}
use Rattle.interval.specs.declared.range.Range.{Range}
use Rattle.interval.specs.declared.transfers.Way.{Way}
use Rattle.interval.specs.declared.transfers.Way.TheVariants.{Jump, Next}

-- a range for each variable
abbrev pub Box : Type 0
Box = List Range

-- what is known at a place: nothing comes there, or each variable lies in its range
pub data At : Type 0 where
  never : At
  within : Box → At

abbrev pub any : Range
any = record { lo = low; hi = high }

abbrev pub only : ℤ → Range
only z = record { lo = z; hi = z }

abbrev pub range : Box → Operand → Range
range b (Num z) = only z
range b (Var x) = slice_index_or b x.0 any

-- a range cut to another; nothing is left if they don't meet
abbrev pub cut : Range → Range → Range
cut r q = record { lo = most r.lo q.lo; hi = least r.hi q.hi }

-- the least range that holds both
abbrev pub join : Range → Range → Range
join r q = record { lo = least r.lo q.lo; hi = most r.hi q.hi }

abbrev pub some_left : Range → Bool
some_left r = le_z r.lo r.hi

abbrev pub plus : Range → Range → Range
plus r q = record { lo = r.lo +ℤ q.lo; hi = r.hi +ℤ q.hi }

abbrev pub minus : Range → Range → Range
minus r q = record { lo = r.lo -ℤ q.hi; hi = r.hi -ℤ q.lo }

abbrev pub scaled : ℤ → Range → Range
scaled c r = record { lo = least (c *ℤ r.lo) (c *ℤ r.hi); hi = most (c *ℤ r.lo) (c *ℤ r.hi) }

abbrev pub held : Box → ℕ → Range → At
held b x r = cond (some_left r) (within (slice_set b x r)) never

-- the places of an array
abbrev pub inside : ℕ → Range
inside n = record { lo = pos 0; hi = pos n -ℤ pos 1 }

abbrev pub narrowed : Box → Operand → Range → At
narrowed b (Num z) r = cond (le_z r.lo z && le_z z r.hi) (within b) never
narrowed b (Var x) r = held b x.0 (cut (slice_index_or b x.0 any) r)

abbrev pub and_then : At → (Box → At) → At
and_then never k = never
and_then (within b) k = k b

-- e < f, and not e < f
abbrev pub if_less : Box → Operand → Operand → At
if_less b e f = and_then (narrowed b e (record { lo = low; hi = (range b f).hi -ℤ pos 1 })) (λ c. narrowed c f (record { lo = (range b e).lo +ℤ pos 1; hi = high }))

abbrev pub if_not : Box → Operand → Operand → At
if_not b e f = and_then (narrowed b e (record { lo = (range b f).lo; hi = high })) (λ c. narrowed c f (record { lo = low; hi = (range b e).hi }))

-- What is known where a step leads, one way out of it at a time: to the place that it names, or to the next. n is the
-- length of the array that it names. A way that the step has not is never gone.
abbrev pub makes : ℕ → Way → Step → Box → At
makes n Jump (Set x e) b = never
makes n Jump (Add x e f) b = never
makes n Jump (Sub x e f) b = never
makes n Jump (Mul x c e) b = never
makes n Jump (Load x a e) b = never
makes n Jump (Store a e f) b = never
makes n Jump (Ask x) b = never
makes n Jump (Show e) b = never
makes n Jump (Go t) b = within b
makes n Jump (Less e f t) b = if_less b e f
makes n Jump Stop b = never
makes n Next (Set x e) b = within (slice_set b x.0 (range b e))
makes n Next (Add x e f) b = held b x.0 (cut (plus (range b e) (range b f)) any)
makes n Next (Sub x e f) b = held b x.0 (cut (minus (range b e) (range b f)) any)
makes n Next (Mul x c e) b = held b x.0 (cut (scaled c (range b e)) any)
makes n Next (Load x a e) b = and_then (narrowed b e (inside n)) (λ c. within (slice_set c x.0 any))
makes n Next (Store a e f) b = narrowed b e (inside n)
makes n Next (Ask x) b = within (slice_set b x.0 any)
makes n Next (Show e) b = within b
makes n Next (Go t) b = never
makes n Next (Less e f t) b = if_not b e f
makes n Next Stop b = never

-- one knows at least as much as another
abbrev pub inside1 : Range → Range → Bool
inside1 r q = le_z q.lo r.lo && le_z r.hi q.hi

abbrev pub Inside : Box → Box → Type 0
Inside [] [] = Unit {0}
Inside [] (q ∷ qs) = ⊥
Inside (r ∷ rs) [] = ⊥
Inside (r ∷ rs) (q ∷ qs) = T (inside1 r q) × Inside rs qs

abbrev pub AtLeast : At → At → Type 0
AtLeast never a = Unit {0}
AtLeast (within b) never = ⊥
AtLeast (within b) (within c) = Inside b c
