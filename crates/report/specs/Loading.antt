-- What is loaded from texts, with room for so many numbers: s is what the numbers lent hold then.
use Rattle.std.specs.Prelude.{◌≡◌, ℕ, List, take, ℤ, Some, None, Ok, Err, Result}
use Rattle.program.specs.Program.{Prog}
use Rattle.program.specs.Rows.{Program}
use Rattle.program.specs.Says.{Refused}
use Rattle.table.specs.Tables.{Table, Holds}
use Rattle.table.specs.Rows.{row_t}
use Rattle.table.specs.Looking.{fault_in}
use denote.Ref.{Bor}
use Rattle.text.specs.Numbers.{reading, placed}
use Rattle.message.specs.declared.Error.{Error}
use Rattle.message.specs.declared.Error.TheVariants.{ProgramText, TableText, NumbersText, Unread, BadTable}

-- the numbers that are lent
abbrev pub in_hand : {E : Type 0} → Result (Bor (List ℤ)) E → Result (List ℤ) E
in_hand (Ok s) = Ok s.now
in_hand (Err e) = Err e

abbrev pub LoadProgramSays : List ℕ → ℕ → List ℤ → Result ℕ Error → Type 0
LoadProgramSays u room s (Ok n) = (p : Prog) × (reading room u ≡ Ok (take n s)) × Program (take n s) p
LoadProgramSays u room s (Err (ProgramText f)) = reading room u ≡ Err f
LoadProgramSays u room s (Err (Unread f at)) = (rows : List ℤ) × (reading room u ≡ Ok rows) × Refused rows f × (at ≡ placed u f.at)
LoadProgramSays u room s (Err e) = ⊥

-- a table for the program with these rows
abbrev pub LoadTableSays : List ℕ → List ℤ → ℕ → List ℤ → Result ℕ Error → Type 0
LoadTableSays u rows room s (Ok n) = (p : Prog) × (t : Table) × (reading room u ≡ Ok (take n s)) × Program rows p × (row_t p.vars t ≡ take n s) × Holds p t
LoadTableSays u rows room s (Err (TableText f)) = reading room u ≡ Err f
LoadTableSays u rows room s (Err (Unread f at)) = Refused rows f × (at ≡ None)
LoadTableSays u rows room s (Err (BadTable c)) = (p : Prog) × (l : List ℤ) × (reading room u ≡ Ok l) × Program rows p × (fault_in p l ≡ Some c.fault) × ((t : Table) → row_t p.vars t ≡ l → Holds p t → ⊥)
LoadTableSays u rows room s (Err e) = ⊥

abbrev pub LoadNumbersSays : List ℕ → ℕ → List ℤ → Result ℕ Error → Type 0
LoadNumbersSays u room s (Ok n) = reading room u ≡ Ok (take n s)
LoadNumbersSays u room s (Err (NumbersText f)) = reading room u ≡ Err f
LoadNumbersSays u room s (Err e) = ⊥
