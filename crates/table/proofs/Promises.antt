-- What `check` promises, from what its body finds.
use Rattle.std.proofs.Common.{◌≡◌, ℕ, List, ℤ, Some, None, Ok, Err, arith}
use Rattle.program.specs.declared.Refusal.{Refusal}
use Rattle.program.specs.Program.{Prog}
use Rattle.program.specs.Rows.{Program}
use Rattle.program.specs.Says.{Refused}
use Rattle.program.proofs.Whole.{one_program}
use Rattle.interval.proofs.Monotone.{makes_mono}
use Rattle.interval.proofs.Keeps.{makes_proper, makes_bits}
use Rattle.table.specs.declared.fault.Fault.{Fault}
use Rattle.table.specs.declared.fault.NotGood.TheVariants.{Unread, BadTable}
use Rattle.table.specs.Looking.{fault_in}
use Rattle.table.specs.Says.{Parts, CheckPost}
use Rattle.table.proofs.Rows.{one_table}
use Rattle.table.proofs.Looks.{looking_once, first_fault}
use Rattle.table.proofs.Nothing.{nothing_holds}
use Rattle.table.proofs.Cases.{worked}
use Rattle.table.proofs.Truth.{tables_true, never_fails}
use Rattle.table.proofs.Licensing.{more_licences}

parts : Parts
parts = record { one_program = one_program; one_table = one_table; looking_once = looking_once; first_fault = first_fault; nothing_holds = nothing_holds; worked = worked; tables_true = tables_true; never_fails = never_fails; more_licences = more_licences; monotone = makes_mono; stays_proper = makes_proper; stays_in_bits = makes_bits }

pub unread : (s l : List ℤ) (f : Refusal) → Refused s f → CheckPost s l (Err (Unread f))
unread s l f h = record { says = h; parts = parts }

pub good : (s l : List ℤ) (p : Prog) → Program s p → fault_in p l ≡ None → CheckPost s l (Ok p)
good s l p is h =
    let held = (looking_once s l p is).0 h in
    record { says = (held.0, is, held.1, held.2); parts = parts }

pub bad : (s l : List ℤ) (p : Prog) (f : Fault) → Program s p → fault_in p l ≡ Some f → CheckPost s l (Err (BadTable f))
bad s l p f is h = record { says = (p, is, h, λ t e k. absurd (let n = (looking_once s l p is).1 (t, e, k) in let z : ◌≡◌ {A = ℕ} 0 1 = cc in omega arith)); parts = parts }
