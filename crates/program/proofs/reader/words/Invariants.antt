use Rattle.std.proofs.Common.{◌≡◌, ◌+◌, ◌-◌, ◌*◌, ◌≤◌, Ok}
use Rattle.program.specs.Program.{total}
use Rattle.program.specs.Reading.{and_then, lengths_at}
use Rattle.program.proofs.reader.words.Given as goal

-- what is left of the lengths gives the whole sum
abbrev pub invariant-loop-k : goal.invariant-loop-k
invariant-loop-k l =
    (l.sum ≤ 65536 * l.k)
    × (and_then (lengths_at l.rows (2 + l.k) (l.arrays - l.k)) (λ ns. Ok (l.sum + total ns)) ≡ and_then (lengths_at l.rows 2 l.arrays) (λ ns. Ok (total ns)))
