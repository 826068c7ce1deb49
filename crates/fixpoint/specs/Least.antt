-- The least table: it holds, it knows at least as much as every other that holds, and no range of it is turned.
use Rattle.std.specs.Prelude.{◌≡◌, ℕ, ◌+◌, T, List, length, ℤ, Some}
use Rattle.std.specs.List.{slice_get}
use Rattle.number.specs.Numbers.{le_z}
use Rattle.program.specs.Program.{Prog}
use Rattle.program.specs.Rows.{Program}
use Rattle.interval.specs.declared.Range.{Range}
use Rattle.interval.specs.Ranges.{Box, within, AtLeast}
use Rattle.interval.specs.Laws.{BitsAt, ProperAt, LongAt}
use Rattle.table.specs.Tables.{Table, at, zeros, Holds}

pub record Least (p : Prog) (t : Table) : Type 0 where
  pub holds : Holds p t
  pub least : (u : Table) → Holds p u → (n : ℕ) → AtLeast (at t n) (at u n)
  pub proper : (n : ℕ) (b : Box) (i : ℕ) (r : Range) → at t n ≡ within b → slice_get b i ≡ Some r → T (le_z r.lo r.hi)

-- it knows at least as much as every table that holds
abbrev pub Below : Prog → Table → Type 0
Below p t = (u : Table) → Holds p u → (n : ℕ) → AtLeast (at t n) (at u n)

abbrev pub ProperT : Table → Type 0
ProperT t = (n : ℕ) → ProperAt (at t n)

abbrev pub BitsT : Table → Type 0
BitsT t = (n : ℕ) → BitsAt (at t n)

-- what is true of a table all the way to the least one
pub record Sound (p : Prog) (t : Table) : Type 0 where
  pub long : length t ≡ length p.code + 1
  pub full : (n : ℕ) → LongAt p.vars (at t n)
  pub below : Below p t
  pub proper : ProperT t
  pub bits : BitsT t
  pub start : AtLeast (within (zeros p.vars)) (at t 0)

abbrev pub HasLeast : Type 0
HasLeast = (s : List ℤ) (p : Prog) → Program s p → (t : Table) × Least p t

abbrev pub OneLeast : Type 0
OneLeast = (p : Prog) (t u : Table) → Least p t → Least p u → t ≡ u

abbrev pub LeastInBits : Type 0
LeastInBits = (s : List ℤ) (p : Prog) (t : Table) → Program s p → Least p t → BitsT t

abbrev pub LeastSound : Type 0
LeastSound = (s : List ℤ) (p : Prog) (t : Table) → Program s p → Least p t → Sound p t
