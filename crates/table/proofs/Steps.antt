-- What the loop over the steps goes by.
use Rattle.std.proofs.Common.{◌≤◌, T, leb, arith}
use Rattle.std.proofs.lemmas.Bool.{leb-true}
use Rattle.program.specs.declared.Step.{Step}
use Rattle.program.specs.declared.Step.TheVariants.{Set, Add, Sub, Mul, Load, Store, Ask, Show, Go, Less, Stop}
use Rattle.program.specs.declared.Counts.{Counts}
use Rattle.program.specs.Rows.{ok_i}
use Rattle.program.proofs.Results.{T_true, both}
use Rattle.table.specs.Tables.{target}

-- the place that a step names is there
pub target_there : (c : Counts) (i : Step) → T (ok_i c i) → target i ≤ c.steps
target_there c (Set x e) h = omega arith
target_there c (Add x e f) h = omega arith
target_there c (Sub x e f) h = omega arith
target_there c (Mul x z e) h = omega arith
target_there c (Load x a e) h = omega arith
target_there c (Store a e f) h = omega arith
target_there c (Ask x) h = omega arith
target_there c (Show e) h = omega arith
target_there c (Go t) h = leb-true _ _ (T_true _ h)
target_there c (Less e f t) h = leb-true _ _ (T_true _ (both (leb t.0 c.steps) _ h).0)
target_there c Stop h = omega arith
