-- What is said of a program and a table that are given as texts, with room for so many numbers of each.
use Rattle.std.specs.Prelude.{◌≡◌, ℕ, List, ℤ, Some, Ok, Err, string_bytes, codes, Option, Result, String}
use Rattle.std.specs.Option.{option_and_then}
use Rattle.std.specs.declared.alloc.Global.{Global}
use Rattle.program.specs.Program.{Prog}
use Rattle.program.specs.Rows.{Program}
use Rattle.program.specs.Says.{Refused}
use Rattle.table.specs.Tables.{Table, Holds}
use Rattle.table.specs.Rows.{row_t}
use Rattle.text.specs.Numbers.{reading, placed}
use Rattle.table.specs.declared.NotGood.{NotGood}
use Rattle.table.specs.declared.NotGood.TheVariants.{Unread as UnreadRows, BadTable as BadRows}
use Rattle.table.specs.Looking.{fault_in}
use Rattle.message.specs.declared.Complaint.{Complaint}
use Rattle.message.specs.declared.Error.{Error}
use Rattle.message.specs.declared.Error.TheVariants.{ProgramText, TableText, Unread, BadTable, Memory}

-- an error that says why a table is not good, with a place in the program's text, if there is one
abbrev pub Explains : Option (List ℕ) → NotGood → Error → Type 0
Explains u (UnreadRows f) e = e ≡ Unread f (option_and_then (λ u. placed u f.at) u)
Explains u (BadRows f) e = (c : Complaint) × (e ≡ BadTable c) × (c.fault ≡ f)

abbrev pub CheckTextSays : List ℕ → List ℕ → ℕ → ℕ → Result (String Global) Error → Type 0
CheckTextSays u v m n (Ok out) = (s l : List ℤ) × (p : Prog) × (t : Table) × (reading m u ≡ Ok s) × (reading n v ≡ Ok l) × Program s p × (row_t p.vars t ≡ l) × Holds p t × (string_bytes out ≡ codes "# holds\n")
CheckTextSays u v m n (Err (ProgramText f)) = reading m u ≡ Err f
CheckTextSays u v m n (Err (TableText f)) = reading n v ≡ Err f
CheckTextSays u v m n (Err (Unread f at)) = (s : List ℤ) × (reading m u ≡ Ok s) × Refused s f × (at ≡ placed u f.at)
CheckTextSays u v m n (Err (BadTable c)) = (s l : List ℤ) × (p : Prog) × (reading m u ≡ Ok s) × (reading n v ≡ Ok l) × Program s p × (fault_in p l ≡ Some c.fault) × ((t : Table) → row_t p.vars t ≡ l → Holds p t → ⊥)
CheckTextSays u v m n (Err Memory) = Unit {0}
CheckTextSays u v m n (Err e) = ⊥
