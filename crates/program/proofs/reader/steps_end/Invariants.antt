use Rattle.std.proofs.Common.{◌≡◌, ◌+◌, ◌-◌, Ok}
use Rattle.program.specs.Reading.{and_then, steps_at, first, widths}
use Rattle.program.proofs.reader.steps_end.Given as goal

-- what is left of the steps gives the whole end
abbrev pub invariant-loop : goal.invariant-loop
invariant-loop l =
    and_then (steps_at l.counts l.rows l.at (l.counts.steps - l.counter)) (λ is. Ok (l.at + widths is)) ≡ and_then (steps_at l.counts l.rows (first l.counts) l.counts.steps) (λ is. Ok (first l.counts + widths is))
