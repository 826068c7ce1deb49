-- The state of a run in lent memory.
use Rattle.std.specs.Prelude.{◌≡◌, ℕ, ◌+◌, List, [], ◌∷◌, length, take, drop, ℤ, pos}
use Rattle.program.specs.Program.{Prog, total}
use Rattle.program.specs.Runs.{State}
use Rattle.machine.specs.declared.cursor.Cursor.{Cursor}

-- the arrays, one behind the other
abbrev pub split : List ℕ → List ℤ → List (List ℤ)
split [] m = []
split (n ∷ ns) m = take n m ∷ split ns (drop n m)

-- where each of them begins, the first at k
abbrev pub starts_from : ℕ → List ℕ → List ℤ
starts_from k [] = []
starts_from k (n ∷ ns) = pos k ∷ starts_from (k + n) ns

-- the variables, the arrays of these lengths, the numbers handed in, and room for those shown
abbrev pub state_of : List ℕ → Cursor → List ℤ → List ℤ → List ℤ → List ℤ → State
state_of ns c vs m q o = record { at = c.place; vars = vs; arrays = split ns m; asked = drop c.taken q; shown = take c.count o }

-- memory laid out for a program: where its arrays begin, the variables, the arrays
pub record Laid (p : Prog) (s vs m : List ℤ) : Type 0 where
  pub starts : s ≡ starts_from 0 p.arrays
  pub vars : length vs ≡ p.vars
  pub memory : length m ≡ total p.arrays
