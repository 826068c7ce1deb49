-- The listing of a program: each line a comment, with the variables, the arrays and then a line for each place.
use Rattle.std.specs.Prelude.{◌≡◌, ℕ, ◌+◌, List, [], ◌∷◌, ◌++◌, length, ℤ, Ok, Err, string_bytes, codes, decimal, Result, String}
use Rattle.std.specs.declared.alloc.Global.{Global}
use Rattle.program.specs.declared.Step.{Step}
use Rattle.program.specs.Program.{Prog}
use Rattle.program.specs.Rows.{Program}
use Rattle.program.specs.Says.{Refused}
use Rattle.message.specs.declared.Error.{Error}
use Rattle.message.specs.declared.Error.TheVariants.{Text, NoProgram, Memory}
use Rattle.text.specs.Numbers.{reading, placed}
use Rattle.words.specs.Words.{step_words}

abbrev pub variables_line : ℕ → List ℕ
variables_line n = codes "# variables " ++ (decimal n ++ codes "\n")

abbrev pub array_line : ℕ → ℕ → List ℕ
array_line k n = codes "# array a" ++ (decimal k ++ (codes " of " ++ (decimal n ++ codes "\n")))

abbrev pub array_lines : ℕ → List ℕ → List ℕ
array_lines k [] = []
array_lines k (n ∷ ns) = array_line k n ++ array_lines (k + 1) ns

abbrev pub step_line : ℕ → Step → List ℕ
step_line k i = codes "# " ++ (decimal k ++ (codes " " ++ (step_words i ++ codes "\n")))

abbrev pub step_lines : ℕ → List Step → List ℕ
step_lines k [] = []
step_lines k (i ∷ is) = step_line k i ++ step_lines (k + 1) is

-- the place behind the last step
abbrev pub end_line : ℕ → List ℕ
end_line k = codes "# " ++ (decimal k ++ codes " end\n")

abbrev pub listing_of : Prog → List ℕ
listing_of p = ((variables_line p.vars ++ array_lines 0 p.arrays) ++ step_lines 0 p.code) ++ end_line (length p.code)

-- of a text, with room for so many numbers
abbrev pub ListTextSays : List ℕ → ℕ → Result (String Global) Error → Type 0
ListTextSays t room (Ok out) = (s : List ℤ) × (p : Prog) × (reading room t ≡ Ok s) × Program s p × (string_bytes out ≡ listing_of p)
ListTextSays t room (Err (NoProgram f at)) = (s : List ℤ) × (reading room t ≡ Ok s) × Refused s f × (at ≡ placed t f.at)
ListTextSays t room (Err (Text f)) = reading room t ≡ Err f
ListTextSays t room (Err Memory) = Unit {0}
ListTextSays t room (Err e) = ⊥
