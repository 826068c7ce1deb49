use Rattle.std.proofs.Common.{◌≡◌, ◌≤◌, length, drop}
use Rattle.program.specs.Program.{counts_of}
use Rattle.program.specs.Reading.{first}
use Rattle.table.specs.Tables.{Table, Holds}
use Rattle.machine.specs.Marks.{marks_from}
use Rattle.interpreter.proofs.Loop.{Going}
use Rattle.interpreter.proofs.going.proceed.Given as goal

-- after the steps that were made the run goes on, and its state is in memory
abbrev pub invariant-loop : goal.invariant-loop
invariant-loop l =
    let p = l.program in
    (l.tests ≤ l.counter)
    × (l.cursor.taken ≤ length l.asked)
    × (l.cursor.count ≤ length l.shown)
    × (drop l.cursor.count l.shown ≡ drop l.cursor.count l.initial.shown)
    × ((t : Table) → Holds p t → l.marks ≡ marks_from p t 0 (first (counts_of p)) p.code → Going p t l.asked l.counter l.cursor l.vars l.memory l.shown l.tests)
