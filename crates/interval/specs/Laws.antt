-- The laws of what steps make of boxes.
use Rattle.std.specs.Prelude.{◌≡◌, ℕ, T, length, replicate}
use Rattle.std.specs.List.{AllByRecursion}
use Rattle.number.specs.Numbers.{in64}
use Rattle.program.specs.declared.Step.{Step}
use Rattle.program.specs.declared.Counts.{Counts}
use Rattle.program.specs.Rows.{ok_i}
use Rattle.interval.specs.declared.range.Range.{Range}
use Rattle.interval.specs.declared.transfers.Way.{Way}
use Rattle.interval.specs.Ranges.{Box, At, never, within, any, some_left, makes, Inside, AtLeast}

-- no range is turned
abbrev pub Proper : Box → Type 0
Proper b = AllByRecursion (λ r. T (some_left r)) b

-- each end of each range has its place in 64 bits
abbrev pub Bits1 : Range → Type 0
Bits1 r = T (in64 r.lo) × T (in64 r.hi)

abbrev pub InBits : Box → Type 0
InBits b = AllByRecursion Bits1 b

-- nothing is known of k variables
abbrev pub anys : ℕ → Box
anys k = replicate k any

-- Q holds of the box, if anything comes there
abbrev pub Known : (Box → Type 0) → At → Type 0
Known Q never = Unit {0}
Known Q (within b) = Q b

abbrev pub BitsAt : At → Type 0
BitsAt a = Known InBits a

abbrev pub ProperAt : At → Type 0
ProperAt a = Known Proper a

abbrev pub LongAt : ℕ → At → Type 0
LongAt k a = Known (λ b. length b ≡ k) a

-- a step makes no more of less: what knows at least as much before it does after it
abbrev pub Monotone : Type 0
Monotone = (n : ℕ) (w : Way) (i : Step) (b c : Box) → Proper b → Inside b c → AtLeast (makes n w i b) (makes n w i c)

abbrev pub StaysProper : Type 0
StaysProper = (n : ℕ) (w : Way) (i : Step) (b : Box) → Proper b → ProperAt (makes n w i b)

-- of a step whose numbers have their place in 64 bits
abbrev pub StaysInBits : Type 0
StaysInBits = (c : Counts) (n : ℕ) (w : Way) (i : Step) (b : Box) → T (ok_i c i) → InBits b → BitsAt (makes n w i b)
