use Rattle.std.proofs.Common.{◌≡◌, ◌-◌, ◌*◌}
use Rattle.table.specs.Rows.{width}
use Rattle.table.specs.Looking.{rows_fault}
use Rattle.table.proofs.look.check_rows.Given as goal

-- the places that are left give the answer
abbrev pub invariant-loop-n : goal.invariant-loop-n
invariant-loop-n l = rows_fault l.vars (l.n * width l.vars) l.table (l.places - l.n) ≡ rows_fault l.vars 0 l.table l.places
