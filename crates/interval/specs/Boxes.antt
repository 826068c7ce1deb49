-- Boxes as numbers: from and to for each variable.
use Rattle.std.specs.Prelude.{◌≡◌, cond, List, [], ◌∷◌, ℤ, Some, None, Option}
use Rattle.number.specs.Numbers.{value_of}
use Rattle.program.specs.declared.Operand.{Operand}
use Rattle.interval.specs.declared.range.Range.{Range}
use Rattle.interval.specs.declared.range.WideRange.{WideRange}
use Rattle.interval.specs.Ranges.{Box, At, never, within, some_left, narrowed}

abbrev pub box_of : List ℤ → Box
box_of [] = []
box_of (a ∷ []) = []
box_of (a ∷ b ∷ s) = record { lo = a; hi = b } ∷ box_of s

-- what is known where numbers stand for a box, if anything comes there
abbrev pub at_of : {A : Type 0} → Option A → List ℤ → At
at_of (Some a) s = within (box_of s)
at_of None s = never

-- a range, if anything is left of it
abbrev pub left : Range → Option Range
left r = cond (some_left r) (Some r) None

-- what a range of 128 bits says
abbrev pub range_of : WideRange → Range
range_of w = record { lo = value_of w.lo; hi = value_of w.hi }

-- a range to cut to, or none where nothing would be left of any operand
abbrev pub Cut : Option Range → Range → Type 0
Cut (Some r) q = r ≡ q
Cut None q = (b : Box) (e : Operand) → narrowed b e q ≡ never
