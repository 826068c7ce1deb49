-- What a program does: states, a step, and so many steps from the start.
use Rattle.std.specs.Prelude.{ℕ, zero, suc, ◌+◌, Bool, true, false, cond, List, [], ◌∷◌, ◌++◌, replicate, ℤ, pos, negsuc, ◌+ℤ◌, ◌-ℤ◌, ◌*ℤ◌, Some, None, Option, nat_lt, slice_index, slice_index_or, slice_set}
use Rattle.std.specs.List.{slice_get}
use Rattle.number.specs.Numbers.{less_z, in64}
use Rattle.program.specs.declared.step.Step.{Step}
use Rattle.program.specs.declared.step.Step.TheVariants.{Set, Add, Sub, Mul, Load, Store, Ask, Show, Go, Less, Stop}
use Rattle.program.specs.declared.step.Operand.{Operand}
use Rattle.program.specs.declared.step.Operand.TheVariants.{Num, Var}
use Rattle.program.specs.Program.{Prog}

-- the place, the variables, the arrays, the numbers left to hand in, and the numbers shown
pub record State : Type 0 where
  pub at : ℕ
  pub vars : List ℤ
  pub arrays : List (List ℤ)
  pub asked : List ℤ
  pub shown : List ℤ

-- a run goes on, has stopped, or has failed at a place
pub data Run : Type 0 where
  on : State → Run
  stopped : State → Run
  fails : ℕ → State → Run

abbrev pub value : List ℤ → Operand → ℤ
value vs (Num z) = z
value vs (Var x) = slice_index_or vs x.0 (pos 0)

-- at the next place with these variables; at another place
abbrev pub next : State → List ℤ → State
next s vs = record { at = s.at + 1; vars = vs; arrays = s.arrays; asked = s.asked; shown = s.shown }

abbrev pub to : State → ℕ → State
to s t = record { at = t; vars = s.vars; arrays = s.arrays; asked = s.asked; shown = s.shown }

-- the variable becomes the number, if that has its place in 64 bits
abbrev pub tested : State → ℕ → ℤ → Run
tested s x z = cond (in64 z) (on (next s (slice_set s.vars x z))) (fails s.at s)

abbrev pub words : Prog → ℕ → ℕ
words p a = slice_index p.arrays a

-- whether a number is an index of so many, and which
abbrev pub index_of : ℕ → ℤ → Bool
index_of n (pos i) = nat_lt i n
index_of n (negsuc i) = false

abbrev pub index : ℤ → ℕ
index (pos i) = i
index (negsuc i) = 0

abbrev pub first_of : List ℤ → ℤ
first_of [] = pos 0
first_of (x ∷ xs) = x

abbrev pub rest_of : List ℤ → List ℤ
rest_of [] = []
rest_of (x ∷ xs) = xs

abbrev pub act : Prog → State → Step → Run
act p s (Set x e) = on (next s (slice_set s.vars x.0 (value s.vars e)))
act p s (Add x e f) = tested s x.0 (value s.vars e +ℤ value s.vars f)
act p s (Sub x e f) = tested s x.0 (value s.vars e -ℤ value s.vars f)
act p s (Mul x c e) = tested s x.0 (c *ℤ value s.vars e)
act p s (Load x a e) = cond (index_of (words p a.0) (value s.vars e)) (on (next s (slice_set s.vars x.0 (slice_index_or (slice_index_or s.arrays a.0 []) (index (value s.vars e)) (pos 0))))) (fails s.at s)
act p s (Store a e f) = cond (index_of (words p a.0) (value s.vars e)) (on (record { at = s.at + 1; vars = s.vars; arrays = slice_set s.arrays a.0 (slice_set (slice_index_or s.arrays a.0 []) (index (value s.vars e)) (value s.vars f)); asked = s.asked; shown = s.shown })) (fails s.at s)
act p s (Ask x) = on (record { at = s.at + 1; vars = slice_set s.vars x.0 (first_of s.asked); arrays = s.arrays; asked = rest_of s.asked; shown = s.shown })
act p s (Show e) = on (record { at = s.at + 1; vars = s.vars; arrays = s.arrays; asked = s.asked; shown = s.shown ++ (value s.vars e ∷ []) })
act p s (Go t) = on (to s t.0)
act p s (Less e f t) = on (cond (less_z (value s.vars e) (value s.vars f)) (to s t.0) (to s (s.at + 1)))
act p s Stop = stopped s

-- whether a step has a test, which fails in some states
abbrev pub has_test : Step → Bool
has_test (Set x e) = false
has_test (Add x e f) = true
has_test (Sub x e f) = true
has_test (Mul x c e) = true
has_test (Load x a e) = true
has_test (Store a e f) = true
has_test (Ask x) = false
has_test (Show e) = false
has_test (Go t) = false
has_test (Less e f t) = false
has_test Stop = false

-- behind the last step a run stops
abbrev pub act_or : Prog → State → Option Step → Run
act_or p s None = stopped s
act_or p s (Some i) = act p s i

abbrev pub step : Prog → Run → Run
step p (on s) = act_or p s (slice_get p.code s.at)
step p (stopped s) = stopped s
step p (fails a s) = fails a s

abbrev pub steps : ℕ → Prog → Run → Run
steps zero p r = r
steps (suc n) p r = steps n p (step p r)

abbrev pub blank : List ℕ → List (List ℤ)
blank [] = []
blank (n ∷ ns) = replicate n (pos 0) ∷ blank ns

abbrev pub begin : Prog → List ℤ → Run
begin p asked = on (record { at = 0; vars = replicate p.vars (pos 0); arrays = blank p.arrays; asked = asked; shown = [] })
