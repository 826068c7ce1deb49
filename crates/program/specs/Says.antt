-- What the public calls promise, with the theorems that hold of them.
use Rattle.std.specs.Prelude.{◌≡◌, ℕ, ◌+◌, ◌<◌, List, ◌++◌, length, take, drop, ℤ, pos, Some, Ok, Err, Result}
use Rattle.std.specs.List.{slice_get}
use Rattle.program.specs.declared.step.Step.{Step}
use Rattle.program.specs.declared.reader.Counts.{Counts}
use Rattle.program.specs.declared.reader.NoOffsets.{NoOffsets}
use Rattle.program.specs.declared.reader.NoOffsets.TheVariants.{NoProgram, Few}
use Rattle.program.specs.declared.refusal.Refusal.{Refusal}
use Rattle.program.specs.Program.{Prog, counts_of}
use Rattle.program.specs.Rows.{Program, row_i}
use Rattle.program.specs.Reading.{decode, first, width, offsets_of}

-- rows are the writing of at most one program
abbrev pub OneProgram : Type 0
OneProgram = (s : List ℤ) (p q : Prog) → Program s p → Program s q → p ≡ q

-- a program's offsets are where its steps' rows begin
abbrev pub OffsetsBegin : Type 0
OffsetsBegin = (s : List ℤ) (p : Prog) (k : ℕ) (i : Step) → Program s p → slice_get p.code k ≡ Some i → (o : ℕ) × (slice_get (offsets_of (first (counts_of p)) p.code) k ≡ Some (pos o)) × (drop o s ≡ row_i i ++ drop (o + width i) s)

pub record Parts : Type 0 where
  pub one_program : OneProgram
  pub offsets_begin : OffsetsBegin

-- that the rows are no program, and which number shows it
abbrev pub Refused : List ℤ → Refusal → Type 0
Refused s f = ((p : Prog) → Program s p → ⊥) × (decode s ≡ Err f)

abbrev pub ReadSays : List ℤ → Result Prog Refusal → Type 0
ReadSays s (Ok p) = Program s p
ReadSays s (Err f) = Refused s f

pub record ReadPost (s : List ℤ) (r : Result Prog Refusal) : Type 0 where
  pub says : ReadSays s r
  pub parts : Parts

-- w and w' are the memory lent, before and after
abbrev pub OffsetsSays : List ℤ → List ℤ → List ℤ → Result Counts NoOffsets → Type 0
OffsetsSays s w w' (Ok c) = (p : Prog) × Program s p × (c ≡ counts_of p) × (take c.steps w' ≡ offsets_of (first c) p.code) × (drop c.steps w' ≡ drop c.steps w)
OffsetsSays s w w' (Err (NoProgram f)) = Refused s f × (w' ≡ w)
OffsetsSays s w w' (Err Few) = (p : Prog) × Program s p × (length w < length p.code) × (w' ≡ w)

pub record OffsetsPost (s w w' : List ℤ) (r : Result Counts NoOffsets) : Type 0 where
  pub says : OffsetsSays s w w' r
  pub parts : Parts
