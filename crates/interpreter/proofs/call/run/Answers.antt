use Rattle.std.proofs.Common.{refl, ap, arith}
use Rattle.program.proofs.Whole.{one_program}
use Rattle.interpreter.specs.Ending.{needs}
use Rattle.interpreter.proofs.Promises.{unread, small, bad_table, came, refused}
use Rattle.interpreter.proofs.call.run.Goals as goal

pub returns-in_default : goal.returns-in_default
returns-in_default c = unread c.args.program.now c.args.table.now c.args.asked.now c.args.steps c.args.shown.now _ _ c.in_default.ensures.says.0 refl

pub returns-then-work-wants : goal.returns-then-work-wants
returns-then-work-wants c =
    let s = c.args.program.now in
    let is = c.in-Ok.ensures.says in
    let wanted = c.wants.ensures s _ is c.counts.ensures.exact in
    small s c.args.table.now c.args.asked.now c.args.steps c.args.shown.now _ _ _ is (omega (arith, wanted, c.if-work-wants.true)) refl

pub returns-in-Err : goal.returns-in-Err
returns-in-Err c =
    let s = c.args.program.now in
    let is = c.in-Ok.ensures.says in
    let wanted = c.wants.ensures s _ is c.counts.ensures.exact in
    bad_table s c.args.table.now c.args.asked.now c.args.steps c.args.shown.now _ _ _ is (omega (arith, wanted, c.if-work-wants.false)) (refused s c.args.table.now _ c.in-Err.field-0 is c.in-Err.ensures.says) refl

pub returns-in-Ok-check : goal.returns-in-Ok-check
returns-in-Ok-check c =
    let s = c.args.program.now in
    let is = c.in-Ok.ensures.says in
    let found = c.in-Ok-check.ensures.says in
    let wanted = c.wants.ensures s _ is c.counts.ensures.exact in
    let enough = ap needs (one_program s c.in-Ok-check.program c.in-Ok.read found.1 is) in
    came s c.args.table.now c.args.asked.now c.args.steps c.args.shown.now _ _ c.in-Ok-check.program found.1 (omega (arith, wanted, enough, c.if-work-wants.false)) found.0 found.2 found.3 c.run_with.auto.shown c.run_with.result (c.run_with.ensures found.0 found.2 found.3)
