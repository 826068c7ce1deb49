-- Ways to a table with their sweeps counted, and what a guess adds to them.
use Rattle.std.specs.Prelude.{◌≡◌, ℕ, ◌+◌, ◌-◌, ◌^◌, ◌≤◌, min, Bool, true, cond, List, ℤ}
use Rattle.program.specs.Program.{Prog, counts_of}
use Rattle.table.specs.Tables.{Table}
use Rattle.table.specs.Rows.{row_t}
use Rattle.fixpoint.specs.Least.{Least, Sound}
use Rattle.fixpoint.specs.Rounds.{room}
use Rattle.fixpoint.specs.Confirming.{Over}
use Rattle.fixpoint.specs.Ways.{Leads}
use Rattle.fixpoint.specs.Joining.{table_in}

-- as far as 64 bits count
abbrev pub counted : ℕ → ℕ
counted n = min n (2 ^ 64 - 1)

-- a way to t, of so many sweeps
pub record Came (p : Prog) (t : Table) (count : ℕ) : Type 0 where
  pub sweeps : ℕ
  pub leads : Leads p sweeps t
  pub is_count : count ≡ counted sweeps

-- the guess m over t: whether it was confirmed, after so many sweeps
pub record Tried (p : Prog) (t m : Table) (y : Bool) (k : ℕ) : Type 0 where
  pub came : (n : ℕ) → Came p t n → Came p (cond y m t) (counted (n + k))
  pub over : y ≡ true → Over t m
  pub no_more : y ≡ true → Sound p t → room p m ≤ room p t

-- so many sweeps led from t to t'
pub record Nearer (p : Prog) (t t' : Table) (k : ℕ) : Type 0 where
  pub came : (n : ℕ) → Came p t n → Came p t' (counted (n + k))
  pub no_more : Sound p t → room p t' ≤ room p t

-- these are the rows of the least table, and so many sweeps led to it
pub record Ended (p : Prog) (l : List ℤ) (k : ℕ) : Type 0 where
  pub least : Least p (table_in (counts_of p) l)
  pub rows : row_t p.vars (table_in (counts_of p) l) ≡ l
  pub came : Came p (table_in (counts_of p) l) k
