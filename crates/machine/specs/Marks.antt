-- The mark of a step is one number: where its row begins, or -1 less that where its test isn't licensed.
use Rattle.std.specs.Prelude.{ℕ, ◌+◌, Bool, true, false, List, [], ◌∷◌, ℤ, pos, negsuc}
use Rattle.program.specs.declared.Step.{Step}
use Rattle.program.specs.Program.{Prog}
use Rattle.program.specs.Reading.{width}
use Rattle.table.specs.Tables.{Table}
use Rattle.table.specs.Licences.{licensed}

abbrev pub mark : Bool → ℕ → ℤ
mark true at = pos at
mark false at = negsuc at

abbrev pub sure_of : ℤ → Bool
sure_of (pos at) = true
sure_of (negsuc at) = false

abbrev pub offset_of : ℤ → ℕ
offset_of (pos at) = at
offset_of (negsuc at) = at

-- those of the steps from the k-th on, whose row begins there
abbrev pub marks_from : Prog → Table → ℕ → ℕ → List Step → List ℤ
marks_from p t k at [] = []
marks_from p t k at (i ∷ is) = mark (licensed p t k) at ∷ marks_from p t (k + 1) (at + width i) is
