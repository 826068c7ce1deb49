-- Where a box shows that the test of a step can't fail.
use Rattle.std.specs.Prelude.{ℕ, Bool, true, ◌&&◌, pos}
use Rattle.number.specs.Numbers.{le_z, less_z, low, high}
use Rattle.program.specs.declared.Step.{Step}
use Rattle.program.specs.declared.Step.TheVariants.{Set, Add, Sub, Mul, Load, Store, Ask, Show, Go, Less, Stop}
use Rattle.interval.specs.declared.range.Range.{Range}
use Rattle.interval.specs.Ranges.{Box, range, plus, minus, scaled}

-- both ends lie in 64 bits, seen from inside
abbrev pub in_bits : Range → Bool
in_bits r = le_z low r.lo && le_z r.hi high

-- each number is an index of n
abbrev pub in_array : ℕ → Range → Bool
in_array n r = le_z (pos 0) r.lo && less_z r.hi (pos n)

-- the test of a step can't fail where the variables lie in b; n is the length of the array that it names
abbrev pub sure : ℕ → Box → Step → Bool
sure n b (Set x e) = true
sure n b (Add x e f) = in_bits (plus (range b e) (range b f))
sure n b (Sub x e f) = in_bits (minus (range b e) (range b f))
sure n b (Mul x c e) = in_bits (scaled c (range b e))
sure n b (Load x a e) = in_array n (range b e)
sure n b (Store a e f) = in_array n (range b e)
sure n b (Ask x) = true
sure n b (Show e) = true
sure n b (Go t) = true
sure n b (Less e f t) = true
sure n b Stop = true
