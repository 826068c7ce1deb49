use Rattle.std.proofs.Common.{true, sym, subst}
use Rattle.program.specs.Program.{counts_of}
use Rattle.fixpoint.specs.Joining.{table_in}
use Rattle.least.specs.Going.{Tried}
use Rattle.least.proofs.Counts.{tried_yes, tried_no}
use Rattle.least.proofs.guess.settle.Goals as goal

pub returns-then-tried : goal.returns-then-tried
returns-then-tried c =
    let p = c.args.program.now in
    let t = table_in (counts_of p) c.args.table.now in
    let m = table_in (counts_of p) c.lower.new.guess in
    subst (Tried p t m true) (sym c.saturating_add-sweeps-in-loop-failed.ensures) (tried_yes p t m c.saturating_add-sweeps.result c.confirm-tried.result c.confirm-tried.ensures.says c.if-tried.true)

pub returns-after-loop-failed : goal.returns-after-loop-failed
returns-after-loop-failed c = tried_no c.args.program.now _ _ _

pub returns-then-ends-eq0 : goal.returns-then-ends-eq0
returns-then-ends-eq0 c = tried_no c.args.program.now _ _ _
