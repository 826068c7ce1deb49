use Rattle.std.proofs.Common.{◌+◌, length, sym, ap, ◌∙◌, arith}
use Rattle.program.proofs.Walk.{read_never, read_step}
use Rattle.program.proofs.rows.StepsIterator.next.Goals as goal

pub invariant_of-self : goal.invariant_of-self
invariant_of-self c =
    let s = c.self.inside in
    (read_step s.rows.now s.counts s.at s.place c.if-self.false c.self.invariant c.in-Ok.step c.in-Ok.next c.in-Ok.ensures).0

pub unreachable-requires : goal.unreachable-requires
unreachable-requires c =
    let s = c.self.inside in
    read_never s.rows.now s.counts s.at s.place c.if-self.false c.self.invariant c.in-Err.field-0 c.in-Err.ensures

pub returns-clause-steps : goal.returns-clause-steps
returns-clause-steps c =
    let s = c.self.inside in
    let read = read_step s.rows.now s.counts s.at s.place c.if-self.false c.self.invariant c.in-Ok.step c.in-Ok.next c.in-Ok.ensures in
    let place = ap (λ a. a.place) c.self.view_is in
    (ap (λ a. a.steps) (sym c.self.view_is) ∙ read.1, place, ap (λ n. n + 1) place)

pub returns-clause-goes : goal.returns-clause-goes
returns-clause-goes c =
    let s = c.self.inside in
    let read = read_step s.rows.now s.counts s.at s.place c.if-self.false c.self.invariant c.in-Ok.step c.in-Ok.next c.in-Ok.ensures in
    record { on = λ _. (tt, tt, omega (arith, ap (λ a. length a.steps) (sym c.self.view_is), ap length read.1)); keeps = tt; rests = λ _. tt }
