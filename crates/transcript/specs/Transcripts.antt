-- What is printed of a run: a line for each number shown, and one that says how it ended.
use Rattle.std.specs.Prelude.{◌≡◌, ℕ, ◌<◌, List, [], ◌∷◌, ◌++◌, ℤ, Some, None, Ok, Err, string_bytes, codes, decimal, Result, String}
use Rattle.std.specs.declared.alloc.Global.{Global}
use Rattle.std.specs.Fmt.{signed_decimal}
use Rattle.program.specs.Program.{Prog}
use Rattle.program.specs.Rows.{Program}
use Rattle.program.specs.Runs.{Run, steps, begin}
use Rattle.program.specs.Says.{Refused}
use Rattle.table.specs.Tables.{Table, Holds}
use Rattle.table.specs.Rows.{row_t}
use Rattle.table.specs.Licences.{tests}
use Rattle.table.specs.Looking.{fault_in}
use Rattle.interpreter.specs.declared.Ran.{Ran}
use Rattle.interpreter.specs.declared.Ran.TheVariants.{Stopped, Failed, More, BadTable as NoTable, Unread as NoProgramRun, OutFull as Filled, Small as TooSmall}
use Rattle.interpreter.specs.Ending.{shown_by, answer_of, Overflows, needs}
use Rattle.message.specs.declared.Error.{Error}
use Rattle.message.specs.declared.Error.TheVariants.{Unread, BadTable, Small, OutFull, Memory}

abbrev pub number_lines : List ℤ → List ℕ
number_lines [] = []
number_lines (z ∷ zs) = (signed_decimal z ++ codes "\n") ++ number_lines zs

-- how many numbers were shown, and how many tests were done
abbrev pub counted : ℕ → ℕ → List ℕ
counted k c = decimal k ++ (codes " tests " ++ (decimal c ++ codes "\n"))

abbrev pub end_line : Ran → List ℕ
end_line (Stopped k c) = codes "# stopped shown " ++ counted k c
end_line (Failed a k c) = codes "# failed " ++ (decimal a ++ (codes " shown " ++ counted k c))
end_line (More k c) = codes "# more shown " ++ counted k c
end_line NoTable = []
end_line NoProgramRun = []
end_line Filled = []
end_line TooSmall = []

-- of a run that did so many tests
abbrev pub run_text : Run → ℕ → List ℕ
run_text r c = number_lines (shown_by r) ++ end_line (answer_of r c)

-- the text, or want of memory
abbrev pub Written : List ℕ → Result (String Global) Error → Type 0
Written bytes (Ok out) = string_bytes out ≡ bytes
Written bytes (Err e) = e ≡ Memory

-- of a program, a table, the numbers handed in, n steps, room for so many numbers shown and so many work numbers
abbrev pub RunTextSays : List ℤ → List ℤ → List ℤ → ℕ → ℕ → ℕ → Result (String Global) Error → Type 0
RunTextSays s l q n room w (Ok out) = (p : Prog) × (t : Table) × Program s p × (row_t p.vars t ≡ l) × Holds p t × (string_bytes out ≡ run_text (steps n p (begin p q)) (tests n p t (begin p q)))
RunTextSays s l q n room w (Err (Unread f at)) = Refused s f × (at ≡ None)
RunTextSays s l q n room w (Err (BadTable c)) = (p : Prog) × Program s p × (fault_in p l ≡ Some c.fault) × ((t : Table) → row_t p.vars t ≡ l → Holds p t → ⊥)
RunTextSays s l q n room w (Err (Small a b)) = (p : Prog) × Program s p × (a ≡ needs p) × (b ≡ w) × (w < needs p)
RunTextSays s l q n room w (Err (OutFull k)) = (p : Prog) × (t : Table) × Program s p × (row_t p.vars t ≡ l) × Holds p t × (k ≡ room) × Overflows p q n room
RunTextSays s l q n room w (Err Memory) = Unit {0}
RunTextSays s l q n room w (Err e) = ⊥
