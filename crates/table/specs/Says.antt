-- What the check of a table promises, with the theorems that hold of it.
use Rattle.std.specs.Prelude.{◌≡◌, ℕ, ◌+◌, ◌<◌, ◌↔◌, List, length, replicate, ℤ, Some, None, Ok, Err, Result}
use Rattle.std.specs.List.{slice_get}
use Rattle.program.specs.declared.Step.{Step}
use Rattle.program.specs.declared.Place.{Place}
use Rattle.program.specs.Program.{Prog}
use Rattle.program.specs.Rows.{Program}
use Rattle.program.specs.Says.{Refused, OneProgram}
use Rattle.interval.specs.Ranges.{Box, within}
use Rattle.interval.specs.Laws.{anys, Monotone, StaysProper, StaysInBits}
use Rattle.table.specs.declared.fault.Miss.{Miss}
use Rattle.table.specs.declared.fault.Fault.TheVariants.{NotCarried}
use Rattle.table.specs.declared.fault.NotGood.{NotGood}
use Rattle.table.specs.declared.fault.NotGood.TheVariants.{Unread, BadTable}
use Rattle.table.specs.Tables.{Table, at, leads, Carried, Holds}
use Rattle.table.specs.Rows.{row_t}
use Rattle.table.specs.Looking.{fault_in}
use Rattle.table.specs.Cases.{Worked}
use Rattle.table.specs.Licences.{TablesTrue, NeverFails, MoreLicences}

-- a place for each step and the one behind the last, and a range for each variable wherever something comes
pub record Full (p : Prog) (t : Table) : Type 0 where
  pub long : length t ≡ length p.code + 1
  pub full : (n : ℕ) (b : Box) → at t n ≡ within b → length b ≡ p.vars

-- rows are the writing of at most one table
abbrev pub OneTable : Type 0
OneTable = (p : Prog) (t u : Table) → Full p t → Full p u → row_t p.vars t ≡ row_t p.vars u → t ≡ u

-- looking at each step once decides whether a table holds
abbrev pub LookingOnce : Type 0
LookingOnce = (s l : List ℤ) (p : Prog) → Program s p → (fault_in p l ≡ None) ↔ ((t : Table) × (row_t p.vars t ≡ l) × Holds p t)

-- where a step isn't carried, it isn't, and each step before it is
abbrev pub FirstFault : Type 0
FirstFault = (s : List ℤ) (p : Prog) (t : Table) (n to : Place) (m : Miss) → Program s p → Full p t → fault_in p (row_t p.vars t) ≡ Some (NotCarried n to m) → ((k : ℕ) (i : Step) (b : Box) → k < n.0 → slice_get p.code k ≡ Some i → at t k ≡ within b → Carried t (leads p k b i)) × ((i : Step) (b : Box) → slice_get p.code n.0 ≡ Some i → at t n.0 ≡ within b → Carried t (leads p n.0 b i) → ⊥)

-- knowing nothing holds for every program
abbrev pub NothingHolds : Type 0
NothingHolds = (s : List ℤ) (p : Prog) → Program s p → Holds p (replicate (length p.code + 1) (within (anys p.vars)))

pub record Parts : Type 0 where
  pub one_program : OneProgram
  pub one_table : OneTable
  pub looking_once : LookingOnce
  pub first_fault : FirstFault
  pub nothing_holds : NothingHolds
  pub worked : Worked
  pub tables_true : TablesTrue
  pub never_fails : NeverFails
  pub more_licences : MoreLicences
  pub monotone : Monotone
  pub stays_proper : StaysProper
  pub stays_in_bits : StaysInBits

abbrev pub CheckSays : List ℤ → List ℤ → Result Prog NotGood → Type 0
CheckSays s l (Ok p) = (t : Table) × Program s p × (row_t p.vars t ≡ l) × Holds p t
CheckSays s l (Err (Unread f)) = Refused s f
CheckSays s l (Err (BadTable f)) = (p : Prog) × Program s p × (fault_in p l ≡ Some f) × ((t : Table) → row_t p.vars t ≡ l → Holds p t → ⊥)

pub record CheckPost (s l : List ℤ) (r : Result Prog NotGood) : Type 0 where
  pub says : CheckSays s l r
  pub parts : Parts
