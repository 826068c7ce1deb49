-- Parts of rows that are known to be there.
use Rattle.std.specs.Prelude.{◌≡◌, ℕ, List, [], ◌∷◌, ◌++◌, ℤ, pos}
use Rattle.program.specs.declared.Operand.{Operand}
use Rattle.program.specs.Rows.{row_v}

-- a number that names something; one, and two operands
abbrev pub row_n : ℕ → List ℤ
row_n n = pos n ∷ []

abbrev pub row_two : ℕ × Operand × Operand → List ℤ
row_two t = pos t.0 ∷ (row_v t.1 ++ row_v t.2)

-- numbers begin with the row of something; whatever they begin with the row of is that
abbrev pub Begins : {A : Type 0} → (A → List ℤ) → List ℤ → Type 0
Begins {A} row s = (x : A) × (rest : List ℤ) × (s ≡ row x ++ rest)

abbrev pub Fetched : {A : Type 0} → (A → List ℤ) → List ℤ → A → Type 0
Fetched {A} row s r = (x : A) (rest : List ℤ) → s ≡ row x ++ rest → r ≡ x
