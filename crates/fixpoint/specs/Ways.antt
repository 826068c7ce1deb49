-- The way to the least table: from the start by rounds, by guesses that are confirmed, and by sweeps that only look for a guess.
use Rattle.std.specs.Prelude.{◌≡◌, ℕ, ◌+◌, ◌≤◌, false, List, ℤ}
use Rattle.program.specs.Program.{Prog}
use Rattle.program.specs.Rows.{Program}
use Rattle.table.specs.Tables.{Table}
use Rattle.fixpoint.specs.Least.{Least, Sound}
use Rattle.fixpoint.specs.Rounds.{start, round, room}
use Rattle.fixpoint.specs.Confirming.{Confirms}

-- so many sweeps lead to a table
pub data Leads (p : Prog) : ℕ → Table → Type 0 where
  begin : Leads p 0 (start p)
  rounded : {n : ℕ} {t : Table} → Leads p n t → Leads p (n + 1) (round p t).table
  confirmed : (k : ℕ) {n : ℕ} {t m : Table} → Leads p n t → Confirms p t m k → Leads p (n + k) m
  -- spent on a guess that is not confirmed, or on making one
  spent : {n : ℕ} {t : Table} → Leads p n t → Leads p (n + 1) t

-- a guess that is confirmed is sound, and leaves no more room
abbrev pub GuessSound : Type 0
GuessSound = (s : List ℤ) (p : Prog) (t m : Table) (k : ℕ) → Program s p → Sound p t → Confirms p t m k → Sound p m

abbrev pub GuessNoMore : Type 0
GuessNoMore = (s : List ℤ) (p : Prog) (t m : Table) (k : ℕ) → Program s p → Sound p t → Confirms p t m k → room p m ≤ room p t

abbrev pub WaySound : Type 0
WaySound = (s : List ℤ) (p : Prog) (n : ℕ) (t : Table) → Program s p → Leads p n t → Sound p t

-- it ends at the least table, and some way does
abbrev pub WayLast : Type 0
WayLast = (s : List ℤ) (p : Prog) (n : ℕ) (t : Table) → Program s p → Leads p n t → (round p t).changed ≡ false → Least p t

abbrev pub WayEnds : Type 0
WayEnds = (s : List ℤ) (p : Prog) → Program s p → (n : ℕ) × (t : Table) × Leads p n t × ((round p t).changed ≡ false)
