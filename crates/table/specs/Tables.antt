-- A table says what is known at each place; it holds if it holds at the start and every step carries it on.
use Rattle.std.specs.Prelude.{◌≡◌, ℕ, zero, suc, ◌+◌, List, [], ◌∷◌, length, pos, Some, slice_index, slice_index_or}
use Rattle.std.specs.List.{slice_get}
use Rattle.program.specs.declared.Step.{Step}
use Rattle.program.specs.declared.Step.TheVariants.{Set, Add, Sub, Mul, Load, Store, Ask, Show, Go, Less, Stop}
use Rattle.program.specs.Program.{Prog}
use Rattle.interval.specs.declared.Way.TheVariants.{Jump, Next}
use Rattle.interval.specs.Ranges.{Box, At, never, within, only, makes, AtLeast}

-- the place behind the last step included
abbrev pub Table : Type 0
Table = List At

abbrev pub at : Table → ℕ → At
at t n = slice_index_or t n never

-- all variables 0
abbrev pub zeros : ℕ → Box
zeros zero = []
zeros (suc n) = only (pos 0) ∷ zeros n

-- the length of the array that a step names
abbrev pub words_of : Prog → Step → ℕ
words_of p (Set x e) = 0
words_of p (Add x e f) = 0
words_of p (Sub x e f) = 0
words_of p (Mul x c e) = 0
words_of p (Load x a e) = slice_index p.arrays a.0
words_of p (Store a e f) = slice_index p.arrays a.0
words_of p (Ask x) = 0
words_of p (Show e) = 0
words_of p (Go t) = 0
words_of p (Less e f t) = 0
words_of p Stop = 0

-- the place that a step names
abbrev pub target : Step → ℕ
target (Set x e) = 0
target (Add x e f) = 0
target (Sub x e f) = 0
target (Mul x c e) = 0
target (Load x a e) = 0
target (Store a e f) = 0
target (Ask x) = 0
target (Show e) = 0
target (Go t) = t.0
target (Less e f t) = t.0
target Stop = 0

-- where a step leads, and what is known there if the variables lay in b before it
pub record To : Type 0 where
  pub place : ℕ
  pub known : At

abbrev pub leads : Prog → ℕ → Box → Step → List To
leads p n b i =
    record { place = target i; known = makes (words_of p i) Jump i b }
    ∷ record { place = n + 1; known = makes (words_of p i) Next i b }
    ∷ []

abbrev pub Carried : Table → List To → Type 0
Carried t [] = Unit {0}
Carried t (x ∷ xs) = AtLeast x.known (at t x.place) × Carried t xs

pub record Holds (p : Prog) (t : Table) : Type 0 where
  pub long : length t ≡ length p.code + 1
  pub start : AtLeast (within (zeros p.vars)) (at t 0)
  pub steps : (n : ℕ) (i : Step) (b : Box) → slice_get p.code n ≡ Some i → at t n ≡ within b → Carried t (leads p n b i)
  pub full : (n : ℕ) (b : Box) → at t n ≡ within b → length b ≡ p.vars
