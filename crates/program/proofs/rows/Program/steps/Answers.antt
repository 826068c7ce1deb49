use Rattle.std.proofs.Common.{[], is_ok, ap, ◌∙◌}
use Rattle.std.specs.Result.{result_unwrap_or}
use Rattle.program.specs.Reading.{program_in}
use Rattle.program.proofs.Whole.{all_steps}
use Rattle.program.proofs.rows.Program.steps.Goals as goal

pub invariant_of-result : goal.invariant_of-result
invariant_of-result c =
    let s = c.self.inside.rows.now in
    ap is_ok (all_steps s (program_in s) c.self.inside.counts c.self.invariant.0 c.self.invariant.1)

pub returns-clause-all : goal.returns-clause-all
returns-clause-all c =
    let s = c.self.inside.rows.now in
    ap (λ r. record { place = 0; steps = result_unwrap_or r [] }) (all_steps s (program_in s) c.self.inside.counts c.self.invariant.0 c.self.invariant.1) ∙ ap (λ p. record { place = 0; steps = p.code }) c.self.view_is
