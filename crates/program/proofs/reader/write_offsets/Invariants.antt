use Rattle.std.proofs.Common.{◌≡◌, ◌+◌, ◌++◌, length, take, drop}
use Rattle.program.specs.Program.{counts_of}
use Rattle.program.specs.Reading.{first, widths, offsets_of}
use Rattle.program.proofs.Walk.{AheadOf}
use Rattle.program.proofs.reader.write_offsets.Given as goal

-- what is written, with the offsets of the steps that are left, are all of them
abbrev pub invariant-loop-k : goal.invariant-loop-k
invariant-loop-k l =
    AheadOf l.program l.k-iterator
    × (l.at + widths l.k-iterator.steps ≡ first (counts_of l.program) + widths l.program.code)
    × (take l.k-iterator.place l.work ++ offsets_of l.at l.k-iterator.steps ≡ offsets_of (first (counts_of l.program)) l.program.code)
    × (drop (length l.program.code) l.work ≡ drop (length l.program.code) l.initial.work)
