-- What finding the least table promises, with the theorems that hold of it.
use Rattle.std.specs.Prelude.{◌≡◌, ℕ, ◌+◌, ◌-◌, ◌*◌, ◌^◌, ◌<◌, min, true, ◌⊎◌, ◌↔◌, List, length, take, drop, ℤ}
use Rattle.program.specs.Program.{Prog, counts_of}
use Rattle.program.specs.Rows.{Program}
use Rattle.program.specs.Says.{OneProgram}
use Rattle.table.specs.Tables.{Table, Holds}
use Rattle.table.specs.Rows.{row_t, wants}
use Rattle.table.specs.Licences.{licensed, TablesTrue, NeverFails}
use Rattle.table.specs.Says.{OneTable, LookingOnce}
use Rattle.fixpoint.specs.Least.{Least, HasLeast, OneLeast, LeastInBits}
use Rattle.fixpoint.specs.Confirming.{GuessRight}
use Rattle.fixpoint.specs.Ways.{Leads, WaySound, WayLast, WayEnds}
use Rattle.fixpoint.specs.Says.{LeastWorked}
use Rattle.least.specs.declared.call.Found.{Found}
use Rattle.least.specs.declared.call.Found.TheVariants.{Ranges, NoProgram, Few}

-- s are a program's rows; o and o' are the room for the table, before and after
abbrev pub FoundSays : List ℤ → List ℤ → List ℤ → Found → Type 0
FoundSays s o o' (Ranges rounds) = (p : Prog) × (t : Table) × Program s p × Least p t × (take (length (row_t p.vars t)) o' ≡ row_t p.vars t) × (drop (length (row_t p.vars t)) o' ≡ drop (length (row_t p.vars t)) o) × ((n : ℕ) × Leads p n t × (rounds ≡ min n (2 ^ 64 - 1)))
FoundSays s o o' NoProgram = ((p : Prog) → Program s p → ⊥) × (o' ≡ o)
FoundSays s o o' Few = o' ≡ o

-- how many numbers the table of a program has
abbrev pub wants_of : Prog → ℕ
wants_of p = wants (counts_of p)

-- whatever test a table that holds licenses, the least does too
abbrev pub LicencesMost : Type 0
LicencesMost = (s : List ℤ) (p : Prog) (t u : Table) (n : ℕ) → Program s p → Least p t → Holds p u → licensed p u n ≡ true → licensed p t n ≡ true

pub record Parts : Type 0 where
  pub one_program : OneProgram
  pub one_table : OneTable
  pub has_least : HasLeast
  pub one_least : OneLeast
  pub least_in_bits : LeastInBits
  pub looking_once : LookingOnce
  pub tables_true : TablesTrue
  pub never_fails : NeverFails
  pub licences_most : LicencesMost
  pub guess_right : GuessRight
  pub way_sound : WaySound
  pub way_last : WayLast
  pub way_ends : WayEnds
  pub worked : LeastWorked

-- w is how many work numbers were lent
pub record FoundPost (s o o' : List ℤ) (w : ℕ) (r : Found) : Type 0 where
  pub says : FoundSays s o o' r
  -- each refusal exactly under its condition
  pub no_program : ((p : Prog) → Program s p → ⊥) ↔ (r ≡ NoProgram)
  pub few : ((p : Prog) × Program s p × ((length o < wants_of p) ⊎ (w < 4096 + 64 * wants_of p))) ↔ (r ≡ Few)
  pub parts : Parts
