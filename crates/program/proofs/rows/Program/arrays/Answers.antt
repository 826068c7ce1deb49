use Rattle.std.proofs.Common.{◌≡◌, ◌+◌, ◌-◌, length, take, drop, ap, ◌∙◌, arith}
use Rattle.program.specs.Rows.{nats}
use Rattle.program.specs.Reading.{program_in}
use Rattle.program.proofs.Whole.{arrays_are}
use Rattle.program.proofs.rows.Program.arrays.Goals as goal

pub returns : goal.returns
returns c =
    let s = c.self.inside.rows.now in
    let many : 2 + c.self.inside.counts.arrays - 2 ≡ length (program_in s).arrays = omega (arith, ap (λ k. k.arrays) c.self.invariant.1) in
    ap (λ n. take n (drop 2 s)) many ∙ arrays_are s (program_in s) c.self.invariant.0 ∙ ap (λ p. nats p.arrays) c.self.view_is
