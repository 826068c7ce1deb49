use Rattle.std.proofs.Common.{◌≡◌, ◌^◌, ◌<◌, drop}
use Rattle.std.specs.Option.{option_map}
use Rattle.text.specs.Numbers.{capped, digits_on}
use Rattle.text.proofs.magnitude.Given as goal

abbrev pub invariant-loop-digit : goal.invariant-loop-digit
invariant-loop-digit l =
    (l.value < 2 ^ 64) × (option_map capped (digits_on l.value (drop l.digit-index l.digits)) ≡ option_map capped (digits_on 0 l.digits))
