-- Tables in lent numbers, what a hop that is joined in leaves of them, and what a round promises.
use Rattle.std.specs.Prelude.{◌≡◌, ℕ, ◌+◌, ◌<◌, Bool, true, false, not, List, ℤ, slice_set}
use Rattle.program.specs.declared.Counts.{Counts}
use Rattle.program.specs.Program.{Prog, counts_of}
use Rattle.interval.specs.Ranges.{At}
use Rattle.table.specs.Tables.{Table, at}
use Rattle.table.specs.Rows.{row_t, table_of}
use Rattle.fixpoint.specs.Least.{Least, Sound}
use Rattle.fixpoint.specs.Rounds.{join_at, covers, round, room}
use Rattle.fixpoint.specs.Ways.{Leads}
use Rattle.fixpoint.specs.Says.{LeastParts}

-- the table that numbers write for a program of these counts
abbrev pub table_in : Counts → List ℤ → Table
table_in c l = table_of c.vars 0 l (c.steps + 1)

-- numbers that are the rows of the table stay so
abbrev pub Writes : Counts → List ℤ → List ℤ → Type 0
Writes c l l' = row_t c.vars (table_in c l) ≡ l → row_t c.vars (table_in c l') ≡ l'

-- what is made has been joined into the n-th place, and y says whether that changed it
pub record Joined (c : Counts) (n : ℕ) (made : At) (l l' : List ℤ) (y : Bool) : Type 0 where
  pub table : table_in c l' ≡ slice_set (table_in c l) n (join_at (at (table_in c l) n) made)
  pub changed : y ≡ not (covers made (at (table_in c l) n))
  pub writes : Writes c l l'

-- A round over a table in lent numbers: these are the table before it and after it, and y says whether anything changed.
pub record RoundSays (p : Prog) (t t' : Table) (y : Bool) : Type 0 where
  pub table : t' ≡ (round p t).table
  pub changed : y ≡ (round p t).changed
  pub sound : Sound p t → Sound p t'
  pub lowers : Sound p t → y ≡ true → room p t' < room p t
  pub last : Sound p t → y ≡ false → Least p t'
  pub way : (n : ℕ) → Leads p n t → Leads p (n + 1) t'

pub record RoundPost (p : Prog) (l l' : List ℤ) (y : Bool) : Type 0 where
  pub says : RoundSays p (table_in (counts_of p) l) (table_in (counts_of p) l') y
  pub writes : Writes (counts_of p) l l'
  pub parts : LeastParts
