-- The lines for the tests of a program: each a comment, with the place and the step.
use Rattle.std.specs.Prelude.{◌≡◌, ℕ, ◌+◌, Bool, cond, List, [], ◌∷◌, ◌++◌, ℤ, Some, None, Ok, Err, string_bytes, codes, decimal, Result, String}
use Rattle.std.specs.declared.alloc.Global.{Global}
use Rattle.program.specs.declared.Step.{Step}
use Rattle.program.specs.Program.{Prog}
use Rattle.program.specs.Rows.{Program}
use Rattle.program.specs.Says.{Refused}
use Rattle.program.specs.Runs.{has_test}
use Rattle.table.specs.Tables.{Table, Holds}
use Rattle.table.specs.Rows.{row_t}
use Rattle.table.specs.Looking.{fault_in}
use Rattle.table.specs.Licences.{licensed}
use Rattle.words.specs.Words.{step_words}
use Rattle.message.specs.declared.Error.{Error}
use Rattle.message.specs.declared.Error.TheVariants.{Unread, BadTable, Memory}

abbrev pub test_line : Bool → ℕ → Step → List ℕ
test_line sure k i = cond sure (codes "# licence ") (codes "# test ") ++ (decimal k ++ (codes " " ++ (step_words i ++ codes "\n")))

-- the line of a step, if it has a test
abbrev pub line_at : Prog → Table → ℕ → Step → List ℕ
line_at p t k i = cond (has_test i) (test_line (licensed p t k) k i) []

abbrev pub test_lines : Prog → Table → ℕ → List Step → List ℕ
test_lines p t k [] = []
test_lines p t k (i ∷ is) = line_at p t k i ++ test_lines p t (k + 1) is

-- that the table holds, and a line for each test
abbrev pub good_text : Prog → Table → List ℕ
good_text p t = codes "# holds\n" ++ test_lines p t 0 p.code

abbrev pub LicenceTextSays : List ℤ → List ℤ → Result (String Global) Error → Type 0
LicenceTextSays s l (Ok out) = (p : Prog) × (t : Table) × Program s p × (row_t p.vars t ≡ l) × Holds p t × (string_bytes out ≡ good_text p t)
LicenceTextSays s l (Err (Unread f at)) = Refused s f × (at ≡ None)
LicenceTextSays s l (Err (BadTable c)) = (p : Prog) × Program s p × (fault_in p l ≡ Some c.fault) × ((t : Table) → row_t p.vars t ≡ l → Holds p t → ⊥)
LicenceTextSays s l (Err Memory) = Unit {0}
LicenceTextSays s l (Err e) = ⊥
