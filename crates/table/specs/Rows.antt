-- Tables as rows: for each place 1, or 0 where nothing comes, and for each variable from and to, 0 where nothing comes.
use Rattle.std.specs.Prelude.{ℕ, zero, suc, ◌+◌, ◌*◌, Bool, false, cond, List, [], ◌∷◌, ◌++◌, take, drop, ℤ, pos, negsuc, ◌==◌}
use Rattle.program.specs.declared.Counts.{Counts}
use Rattle.interval.specs.Ranges.{Box, At, never, within}
use Rattle.interval.specs.Boxes.{box_of}
use Rattle.table.specs.Tables.{Table}

abbrev pub row_b : Box → List ℤ
row_b [] = []
row_b (r ∷ rs) = r.lo ∷ r.hi ∷ row_b rs

abbrev pub blanks : ℕ → List ℤ
blanks zero = []
blanks (suc n) = pos 0 ∷ pos 0 ∷ blanks n

abbrev pub row_a : ℕ → At → List ℤ
row_a k never = pos 0 ∷ blanks k
row_a k (within b) = pos 1 ∷ row_b b

abbrev pub row_t : ℕ → Table → List ℤ
row_t k [] = []
row_t k (a ∷ t) = row_a k a ++ row_t k t

-- how many numbers a place has, and a table
abbrev pub width : ℕ → ℕ
width vars = 1 + 2 * vars

abbrev pub wants : Counts → ℕ
wants c = (c.steps + 1) * width c.vars

-- what the rows of a table say at each place
abbrev pub is_number : ℕ → ℤ → Bool
is_number k (pos n) = n == k
is_number k (negsuc n) = false

abbrev pub place_of : List ℤ → At
place_of [] = never
place_of (flag ∷ s) = cond (is_number 1 flag) (within (box_of s)) never

abbrev pub place_in : ℕ → List ℤ → ℕ → At
place_in vars s n = place_of (take (width vars) (drop (n * width vars) s))

-- the table that so many places of rows write, from the n-th number on
abbrev pub table_of : ℕ → ℕ → List ℤ → ℕ → Table
table_of vars n s zero = []
table_of vars n s (suc m) = place_of (take (width vars) (drop n s)) ∷ table_of vars (n + width vars) s m
