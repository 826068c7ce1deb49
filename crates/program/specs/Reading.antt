-- What reading rows answers: the program, or the first number that can't be, with what is wrong with it.
use Rattle.std.specs.Prelude.{◌≡◌, ℕ, zero, suc, ◌+◌, min, Bool, true, cond, ◌&&◌, List, [], ◌∷◌, length, drop, ℤ, pos, negsuc, Some, None, Ok, Err, Option, Result, ◌==◌, nat_le, nat_lt}
use Rattle.std.specs.List.{slice_get}
use Rattle.std.specs.Result.{result_unwrap_or}
use Rattle.program.specs.declared.step.Step.{Step}
use Rattle.program.specs.declared.step.Step.TheVariants.{Set, Add, Sub, Mul, Load, Store, Ask, Show, Go, Less, Stop}
use Rattle.program.specs.declared.step.Place.{Place as PlaceT}
use Rattle.program.specs.declared.step.Operand.{Operand}
use Rattle.program.specs.declared.step.Var.{Var as VarT}
use Rattle.program.specs.declared.step.Operand.TheVariants.{Num, Var}
use Rattle.program.specs.declared.refusal.Field.{Field}
use Rattle.program.specs.declared.refusal.Field.TheVariants.{Variables, Arrays, Length, Steps, Kind, OperandKind, Number, Variable, Array, Place}
use Rattle.program.specs.declared.refusal.Reason.{Reason}
use Rattle.program.specs.declared.refusal.Reason.TheVariants.{Missing, Outside, Extra}
use Rattle.program.specs.declared.refusal.Refusal.{Refusal}
use Rattle.number.specs.Numbers.{in64}
use Rattle.program.specs.declared.reader.Counts.{Counts}
use Rattle.program.specs.Program.{Prog, Ahead, total, counts_by}

abbrev pub allows : Field → ℕ → Bool
allows Variables n = nat_le 1 n && nat_le n 64
allows Arrays n = nat_le n 16
allows Length n = nat_le n 65536
allows Steps n = nat_le n 4096
allows Kind n = nat_le n 10
allows OperandKind n = nat_le n 1
allows Number n = true
allows (Variable vars) n = nat_lt n vars
allows (Array arrays) n = nat_lt n arrays
allows (Place steps) n = nat_le n steps

abbrev pub and_then : {A B E : Type 0} → Result A E → (A → Result B E) → Result B E
and_then (Ok x) k = k x
and_then (Err e) k = Err e

abbrev pub refused : {A : Type 0} → ℕ → Reason → Result A Refusal
refused at why = Err (record { at = at; reason = why })

-- The k-th number of the rows, of any size; one that is to fit 64 bits; one that is to be so large.
abbrev pub present : ℕ → Field → Option ℤ → Result ℤ Refusal
present end f None = refused end (Missing f)
present end f (Some z) = Ok z

abbrev pub number_in : List ℤ → ℕ → Field → Result ℤ Refusal
number_in s k f = present (length s) f (slice_get s k)

abbrev pub literal_in : List ℤ → ℕ → Result ℤ Refusal
literal_in s k = and_then (number_in s k Number) (λ z. cond (in64 z) (Ok z) (refused k (Outside Number z)))

abbrev pub as_index : ℕ → Field → ℤ → Result ℕ Refusal
as_index k f (pos n) = cond (allows f n) (Ok n) (refused k (Outside f (pos n)))
as_index k f (negsuc n) = refused k (Outside f (negsuc n))

abbrev pub index_in : List ℤ → ℕ → Field → Result ℕ Refusal
index_in s k f = and_then (number_in s k f) (as_index k f)

abbrev pub operand_in : ℕ → List ℤ → ℕ → Result Operand Refusal
operand_in vars s k =
    and_then (index_in s k OperandKind) (λ kind.
    cond (kind == 0)
    (and_then (literal_in s (k + 1)) (λ z. Ok (Num z)))
    (and_then (index_in s (k + 1) (Variable vars)) (λ x. Ok (Var (record { 0 = x })))))

-- A number that names something, and two operands.
abbrev pub two_in : Field → ℕ → List ℤ → Result (ℕ × Operand × Operand) Refusal
two_in f vars s =
    and_then (index_in s 1 f) (λ x. and_then (operand_in vars s 2) (λ a. and_then (operand_in vars s 4) (λ b. Ok (x, a, b))))

abbrev pub variable : ℕ → VarT
variable x = record { 0 = x }

-- The step that the rows begin with.
abbrev pub step_of : Counts → List ℤ → ℕ → Result Step Refusal
step_of c s kind =
    cond (kind == 0) (and_then (index_in s 1 (Variable c.vars)) (λ x. and_then (operand_in c.vars s 2) (λ e. Ok (Set (variable x) e))))
    (cond (kind == 1) (and_then (two_in (Variable c.vars) c.vars s) (λ t. Ok (Add (variable t.0) t.1 t.2)))
    (cond (kind == 2) (and_then (two_in (Variable c.vars) c.vars s) (λ t. Ok (Sub (variable t.0) t.1 t.2)))
    (cond (kind == 3) (and_then (index_in s 1 (Variable c.vars)) (λ x. and_then (literal_in s 2) (λ z. and_then (operand_in c.vars s 3) (λ e. Ok (Mul (variable x) z e)))))
    (cond (kind == 4) (and_then (index_in s 1 (Variable c.vars)) (λ x. and_then (index_in s 2 (Array c.arrays)) (λ a. and_then (operand_in c.vars s 3) (λ e. Ok (Load (variable x) (record { 0 = a }) e)))))
    (cond (kind == 5) (and_then (two_in (Array c.arrays) c.vars s) (λ t. Ok (Store (record { 0 = t.0 }) t.1 t.2)))
    (cond (kind == 6) (and_then (index_in s 1 (Variable c.vars)) (λ x. Ok (Ask (variable x))))
    (cond (kind == 7) (and_then (operand_in c.vars s 1) (λ e. Ok (Show e)))
    (cond (kind == 8) (and_then (index_in s 1 (Place c.steps)) (λ t. Ok (Go (record { 0 = t }))))
    (cond (kind == 9) (and_then (two_in (Place c.steps) c.vars s) (λ t. Ok (Less t.1 t.2 (record { 0 = t.0 }))))
    (Ok Stop))))))))))

abbrev pub step_in : Counts → List ℤ → Result Step Refusal
step_in c s = and_then (index_in s 0 Kind) (step_of c s)

-- How many numbers a step's row has.
abbrev pub width : Step → ℕ
width (Set x e) = 4
width (Add x e f) = 6
width (Sub x e f) = 6
width (Mul x z e) = 5
width (Load x a e) = 5
width (Store a e f) = 6
width (Ask x) = 2
width (Show e) = 3
width (Go t) = 2
width (Less e f t) = 6
width Stop = 1

abbrev pub widths : List Step → ℕ
widths [] = 0
widths (i ∷ is) = width i + widths is

-- A refusal within the rest of the rows, as one within the rows.
abbrev pub moved : {A : Type 0} → ℕ → Result A Refusal → Result A Refusal
moved n (Ok x) = Ok x
moved n (Err f) = refused (n + f.at) f.reason

abbrev pub step_at : Counts → List ℤ → ℕ → Result Step Refusal
step_at c s at = moved (min at (length s)) (step_in c (drop at s))

-- The same with where the next step begins.
abbrev pub next_at : Counts → List ℤ → ℕ → Result (Step × ℕ) Refusal
next_at c s at = and_then (step_at c s at) (λ i. Ok (i, at + width i))

-- So many steps from there on.
abbrev pub steps_at : Counts → List ℤ → ℕ → ℕ → Result (List Step) Refusal
steps_at c s at zero = Ok []
steps_at c s at (suc n) = and_then (step_at c s at) (λ i. and_then (steps_at c s (at + width i) n) (λ is. Ok (i ∷ is)))

-- So many arrays' lengths from there on.
abbrev pub lengths_at : List ℤ → ℕ → ℕ → Result (List ℕ) Refusal
lengths_at s at zero = Ok []
lengths_at s at (suc n) = and_then (index_in s at Length) (λ k. and_then (lengths_at s (at + 1) n) (λ ks. Ok (k ∷ ks)))

-- What stands before the steps.
pub record Head : Type 0 where
  pub vars : ℕ
  pub arrays : List ℕ
  pub steps : ℕ

abbrev pub head_in : List ℤ → Result Head Refusal
head_in s =
    and_then (index_in s 0 Variables) (λ vars.
    and_then (index_in s 1 Arrays) (λ n.
    and_then (lengths_at s 2 n) (λ arrays.
    and_then (index_in s (2 + n) Steps) (λ steps.
    Ok (record { vars = vars; arrays = arrays; steps = steps })))))

abbrev pub head_counts : Head → Counts
head_counts h = counts_by h.vars h.arrays h.steps

-- Where the steps begin.
abbrev pub first : Counts → ℕ
first c = 3 + c.arrays

-- What the code finds of them: the arrays' lengths together, the counts, and where the steps end.
abbrev pub words_in : List ℤ → ℕ → Result ℕ Refusal
words_in s n = and_then (lengths_at s 2 n) (λ ns. Ok (total ns))

abbrev pub counts_in : List ℤ → Result Counts Refusal
counts_in s = and_then (head_in s) (λ h. Ok (head_counts h))

abbrev pub end_in : Counts → List ℤ → Result ℕ Refusal
end_in c s = and_then (steps_at c s (first c) c.steps) (λ is. Ok (first c + widths is))

abbrev pub ended : {A : Type 0} → List ℤ → ℕ → A → Result A Refusal
ended s end x = cond (end == length s) (Ok x) (refused end Extra)

abbrev pub decode : List ℤ → Result Prog Refusal
decode s =
    and_then (head_in s) (λ h.
    and_then (steps_at (head_counts h) s (first (head_counts h)) h.steps) (λ is.
    ended s (first (head_counts h) + widths is) (record { vars = h.vars; arrays = h.arrays; code = is })))

-- Where the rows of steps begin, the first of them there.
abbrev pub offsets_of : ℕ → List Step → List ℤ
offsets_of at [] = []
offsets_of at (i ∷ is) = pos at ∷ offsets_of (at + width i) is

-- the program that rows are, where they are one; so many steps, where they are there
abbrev pub nothing : Prog
nothing = record { vars = 0; arrays = []; code = [] }

abbrev pub program_in : List ℤ → Prog
program_in s = result_unwrap_or (decode s) nothing

abbrev pub steps_from : Counts → List ℤ → ℕ → ℕ → List Step
steps_from c s at n = result_unwrap_or (steps_at c s at n) []

-- What an iterator over steps with their places gives from `s`, which leaves `t`.
abbrev pub GivesStep : Ahead → Option (PlaceT × Step) → Ahead → Type 0
GivesStep s None t = (s.steps ≡ []) × (t ≡ s)
GivesStep s (Some x) t = (s.steps ≡ x.1 ∷ t.steps) × (x.0.0 ≡ s.place) × (t.place ≡ s.place + 1)
