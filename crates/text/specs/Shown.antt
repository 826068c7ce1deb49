-- A position and a refusal as text. Assumes nothing.
use Rattle.std.specs.Prelude.{ℕ, List, ◌++◌, codes, decimal}
use Rattle.text.specs.declared.refusal.Position.{Position}
use Rattle.text.specs.declared.refusal.Reason.{Reason}
use Rattle.text.specs.declared.refusal.Reason.TheVariants.{NotANumber, TooLarge, TooMany}
use Rattle.text.specs.declared.refusal.Refusal.{Refusal}

abbrev pub shown_position : Position → List ℕ
shown_position p = codes "line " ++ (decimal p.line ++ (codes ", column " ++ decimal p.column))

abbrev pub shown_reason : Reason → List ℕ
shown_reason NotANumber = codes "not a number; a number is digits, with a minus in front if it is negative"
shown_reason TooLarge = codes "a number that 64 bits don't hold, from -9223372036854775808 to 9223372036854775807"
shown_reason (TooMany room) = codes "more than " ++ (decimal room ++ codes " numbers")

abbrev pub shown_refusal : Refusal → List ℕ
shown_refusal f = shown_position f.«at» ++ (codes ": " ++ shown_reason f.reason)
