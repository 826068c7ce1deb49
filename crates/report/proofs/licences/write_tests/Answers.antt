use Rattle.std.proofs.Common.{◌≡◌, ◌+◌, ◌++◌, string_bytes, sym, ap, ◌∙◌}
use Rattle.program.proofs.Walk.{turn}
use Rattle.report.specs.Licences.{line_at, test_lines}
use Rattle.report.proofs.Lines.{line_more}
use Rattle.report.proofs.licences.write_tests.Goals as goal

pub loop-place-preserved : goal.loop-place-preserved
loop-place-preserved c =
    let p = c.args.program.now in
    let k = c.in-Some.place.0 in
    let i = c.in-Some.step in
    let out = string_bytes c.loop-place.out in
    let after = string_bytes c.write_step.new.out in
    let gives = c.in-Some.ensures.steps in
    let left = c.next.new.self.steps in
    let w = turn p c.loop-place.place-iterator c.next.new.self (c.in-Some.place, i) c.loop-place.invariant.0 gives in
    let next : c.next.new.self.place ≡ k + 1 = gives.2 ∙ ap (λ n. n + 1) (sym gives.1) in (
      w.ahead,
      λ t f e.
          ap (λ n. after ++ test_lines p t n left) next
          ∙ line_more out after (line_at p t k i) (test_lines p t (k + 1) left) (c.in_ok-write_step.ensures t f e w.here)
          ∙ ap (λ n. out ++ (line_at p t n i ++ test_lines p t (n + 1) left)) gives.1
          ∙ ap (λ is. out ++ test_lines p t c.loop-place.place-iterator.place is) (sym gives.0)
          ∙ c.loop-place.invariant.1 t f e,
    )
