-- How a table is looked at, each step once, and the first fault that is found.
use Rattle.std.specs.Prelude.{ℕ, zero, suc, ◌+◌, cond, List, [], ◌∷◌, length, take, drop, ℤ, Some, None, Option, Ok, Err, Result, ◌==◌}
use Rattle.std.specs.Option.{option_map}
use Rattle.program.specs.declared.Step.{Step}
use Rattle.program.specs.Program.{Prog, counts_of}
use Rattle.interval.specs.declared.Way.{Way}
use Rattle.interval.specs.declared.Way.TheVariants.{Jump, Next}
use Rattle.interval.specs.Ranges.{Box, At, never, within, makes, inside1}
use Rattle.table.specs.declared.fault.Miss.{Miss}
use Rattle.table.specs.declared.fault.Miss.TheVariants.{Never, Outside}
use Rattle.table.specs.declared.fault.Fault.{Fault}
use Rattle.table.specs.declared.fault.Fault.TheVariants.{Size, Flag, Blank, Start, NotCarried}
use Rattle.table.specs.declared.hops.Hop.{Hop}
use Rattle.table.specs.Tables.{zeros, words_of, target}
use Rattle.table.specs.Rows.{width, wants, is_number, place_in}

-- a fault, or none, as what a check answers
abbrev pub unless : {E : Type 0} → Option E → Result (Unit {0}) E
unless None = Ok tt
unless (Some e) = Err e

abbrev pub or_else : {A : Type 0} → Option A → Option A → Option A
or_else (Some x) o = Some x
or_else None o = o

-- the first variable, from the k-th, whose range isn't inside the other
abbrev pub outside : ℕ → Box → Box → Option Miss
outside k [] c = None
outside k (r ∷ b) [] = None
outside k (r ∷ b) (q ∷ c) = cond (inside1 r q) (outside (k + 1) b c) (Some (Outside (record { 0 = k }) r q))

-- what is missed where something is known that the table doesn't know
abbrev pub missed : At → At → Option Miss
missed never a = None
missed (within b) never = Some Never
missed (within b) (within c) = outside 0 b c

-- a number, from the k-th, that should be 0
abbrev pub not_zero : ℕ → List ℤ → Option ℕ
not_zero k [] = None
not_zero k (z ∷ s) = cond (is_number 0 z) (not_zero (k + 1) s) (Some k)

-- the row of a place, which begins at k
abbrev pub row_fault : ℕ → List ℤ → Option Fault
row_fault k [] = None
row_fault k (z ∷ s) = cond (is_number 1 z) None (cond (is_number 0 z) (option_map Blank (not_zero (k + 1) s)) (Some (Flag k)))

abbrev pub rows_fault : ℕ → ℕ → List ℤ → ℕ → Option Fault
rows_fault vars k s zero = None
rows_fault vars k s (suc n) = or_else (row_fault k (take (width vars) (drop k s))) (rows_fault vars (k + width vars) s n)

-- the step at a place, of an array with so many words
abbrev pub way_miss : ℕ → ℕ → List ℤ → ℕ → ℕ → Way → Step → Box → Option Fault
way_miss words vars s n to w i b = option_map (λ m. NotCarried (record { 0 = n }) (record { 0 = to }) m) (missed (makes words w i b) (place_in vars s to))

abbrev pub known : {A : Type 0} → At → (Box → Option A) → Option A
known never k = None
known (within b) k = k b

-- the fault that a hop shows
abbrev pub hop_fault : ℕ → ℕ → List ℤ → Hop → Option Fault
hop_fault words vars s h = known (place_in vars s h.from.0) (λ b. way_miss words vars s h.from.0 h.to.0 h.way h.step b)

abbrev pub step_fault : ℕ → ℕ → List ℤ → ℕ → Step → Option Fault
step_fault words vars s n i =
    known (place_in vars s n) (λ b. or_else (way_miss words vars s n (target i) Jump i b) (way_miss words vars s n (n + 1) Next i b))

abbrev pub steps_fault : Prog → List ℤ → ℕ → List Step → Option Fault
steps_fault p s n [] = None
steps_fault p s n (i ∷ is) = or_else (step_fault (words_of p i) p.vars s n i) (steps_fault p s (n + 1) is)

abbrev pub fault_in : Prog → List ℤ → Option Fault
fault_in p s =
    cond (length s == wants (counts_of p))
    (or_else (rows_fault p.vars 0 s (length p.code + 1))
    (or_else (option_map Start (missed (within (zeros p.vars)) (place_in p.vars s 0)))
    (steps_fault p s 0 p.code)))
    (Some (Size (wants (counts_of p))))
