-- The order of whole numbers, and which of them have their place in 64 bits.
use Rattle.std.specs.Prelude.{◌-◌, ◌^◌, Bool, true, false, cond, not, ◌&&◌, ℤ, pos, negsuc, Some, None, Option, nat_lt}
use Rattle.number.specs.declared.wide.Wide.{Wide}

abbrev pub less_z : ℤ → ℤ → Bool
less_z (pos a) (pos b) = nat_lt a b
less_z (pos a) (negsuc b) = false
less_z (negsuc a) (pos b) = true
less_z (negsuc a) (negsuc b) = nat_lt b a

abbrev pub le_z : ℤ → ℤ → Bool
le_z a b = not (less_z b a)

abbrev pub least : ℤ → ℤ → ℤ
least a b = cond (le_z a b) a b

abbrev pub most : ℤ → ℤ → ℤ
most a b = cond (le_z a b) b a

abbrev pub low : ℤ
low = negsuc (2 ^ 63 - 1)

abbrev pub high : ℤ
high = pos (2 ^ 63 - 1)

abbrev pub in64 : ℤ → Bool
in64 z = le_z low z && le_z z high

-- the number, where it has its place
abbrev pub fit : ℤ → Option ℤ
fit z = cond (in64 z) (Some z) None

abbrev pub value_of : Wide → ℤ
value_of w = w.0
