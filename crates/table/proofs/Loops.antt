-- What the loops over a table's rows go by.
use Rattle.std.proofs.Common.{◌≡◌, ℕ, zero, suc, ◌+◌, ◌-◌, ◌*◌, ◌<◌, ◌≤◌, true, false, cond, not, Bool, List, [], ◌∷◌, ◌++◌, length, get_or, take, drop, replicate, ℤ, pos, is_some, is_ok, Some, None, Option, Ok, Err, Result, sym, refl, ap, ◌∙◌, ap₂, add_assoc, add-zero, mul-le-mul_right, add-mul, one-mul, add-one-le, arith}
use Rattle.std.specs.Option.{option_map}
use Rattle.std.specs.List.{position, position_from}
use Rattle.std.proofs.lemmas.Iterator.Adapters.{position_from-zero}
use Rattle.std.proofs.lemmas.Bool.{false≢true, true≢false}
use Rattle.program.specs.declared.Step.{Step}
use Rattle.program.specs.declared.Step.TheVariants.{Set, Add, Sub, Mul, Load, Store, Ask, Show, Go, Less, Stop}
use Rattle.interval.specs.declared.Way.TheVariants.{Jump, Next}
use Rattle.std.proofs.lemmas.List.{take_rest}
use Rattle.interval.specs.Ranges.{Box, At, never, within, only}
use Rattle.interval.specs.Boxes.{box_of}
use Rattle.table.specs.declared.fault.Fault.{Fault}
use Rattle.table.specs.declared.fault.Fault.TheVariants.{Flag, Blank}
use Rattle.table.specs.Tables.{zeros, words_of}
use Rattle.table.specs.Rows.{width, is_number, place_of, place_in}
use Rattle.table.specs.declared.hops.Hop.{Hop}
use Rattle.table.specs.Hops.{ways, hops_from}
use Rattle.program.specs.Program.{Prog}
use Rattle.table.specs.Looking.{or_else, not_zero, row_fault, rows_fault, known, way_miss, hop_fault, step_fault, steps_fault, unless}

-- the first number that isn't 0, as the code finds it
abbrev nonzero : ℤ → Bool
nonzero z = not (is_number 0 z)

not_zero_from : (k i : ℕ) (s : List ℤ) → not_zero (k + i) s ≡ option_map (λ i. k + i) (position_from nonzero i s)
not_zero_from k i [] = refl
not_zero_from k i (z ∷ s) = go (is_number 0 z) (ap (λ n. not_zero n s) (add_assoc k i 1) ∙ not_zero_from k (i + 1) s)
  where
    go : (t : Bool) → not_zero (k + i + 1) s ≡ option_map (λ i. k + i) (position_from nonzero (i + 1) s) → cond t (not_zero (k + i + 1) s) (Some (k + i)) ≡ option_map (λ i. k + i) (cond (not t) (Some i) (position_from nonzero (i + 1) s))
    go true h = h
    go false h = refl

pub first_not_zero : (k : ℕ) (s : List ℤ) → not_zero k s ≡ option_map (λ i. k + i) (position nonzero s)
first_not_zero k s = ap (λ n. not_zero n s) (sym (add-zero k)) ∙ not_zero_from k 0 s ∙ ap (option_map (λ i. k + i)) (sym (position_from-zero nonzero s))

-- the row of a place, by its first number
pub place_known : (row : List ℤ) → 0 < length row → is_number 1 (get_or row 0 (pos 0)) ≡ true → place_of row ≡ within (box_of (drop 1 row))
place_known [] l e = absurd (omega arith)
place_known (z ∷ s) l e = ap (λ t. cond t (within (box_of s)) never) e

pub place_never : (row : List ℤ) → 0 < length row → is_number 1 (get_or row 0 (pos 0)) ≡ false → place_of row ≡ never
place_never [] l e = absurd (omega arith)
place_never (z ∷ s) l e = ap (λ t. cond t (within (box_of s)) never) e

pub row_blank : (k : ℕ) (row : List ℤ) (r : Option ℕ) → 0 < length row → is_number 1 (get_or row 0 (pos 0)) ≡ false → is_number 0 (get_or row 0 (pos 0)) ≡ true → r ≡ position nonzero (take (length row - 1) (drop 1 row)) → option_map (λ i. Blank (k + 1 + i)) r ≡ row_fault k row
row_blank k [] r l e f h = absurd (omega arith)
row_blank k (z ∷ s) r l e f h =
    map_map r
    ∙ ap (λ o. option_map Blank (option_map (λ i. k + 1 + i) o)) (h ∙ ap (position nonzero) (take_rest (z ∷ s) 1))
    ∙ ap (option_map Blank) (sym (first_not_zero (k + 1) s))
    ∙ sym (ap₂ (λ t u. cond t None (cond u (option_map Blank (not_zero (k + 1) s)) (Some (Flag k)))) e f)
  where
    map_map : (o : Option ℕ) → option_map (λ i. Blank (k + 1 + i)) o ≡ option_map Blank (option_map (λ i. k + 1 + i) o)
    map_map (Some i) = refl
    map_map None = refl

-- a row lies within the table
pub row_there : (n m w k : ℕ) → n < m → m * w ≤ k → n * w + w ≤ k
row_there n m w k l h =
    let e = mul-le-mul_right w (add-one-le l) in
    let f = add-mul n 1 w in
    omega (arith, e, f, one-mul w)

-- the first fault of the rows, place by place
pub rows_more : (vars k m n : ℕ) (s : List ℤ) → m ≡ suc n → rows_fault vars k s m ≡ or_else (row_fault k (take (width vars) (drop k s))) (rows_fault vars (k + width vars) s n)
rows_more vars k m n s e = ap (rows_fault vars k s) e

-- all variables 0
pub zeros_are : (n : ℕ) → box_of (replicate (2 * n) (pos 0)) ≡ zeros n
zeros_are zero = refl
zeros_are (suc n) = let e : 2 * suc n ≡ suc (suc (2 * n)) = omega arith in rw e (ap (λ b. only (pos 0) ∷ b) (zeros_are n))

-- the first of two faults
pub or_some : {A : Type 0} (o x : Option A) → is_some o ≡ true → or_else o x ≡ o
or_some (Some y) x e = refl
or_some None x e = absurd (false≢true e)

pub or_none : {A : Type 0} (o x : Option A) → is_some o ≡ false → or_else o x ≡ x
or_none (Some y) x e = absurd (true≢false e)
or_none None x e = refl

-- a hop, from what the code finds of it
module _ (words vars : ℕ) (s : List ℤ) (h : Hop) (row : List ℤ) (is : row ≡ take (width vars) (drop (h.from.0 * width vars) s)) (some : 0 < length row) where
  pub hop_unknown : is_number 1 (get_or row 0 (pos 0)) ≡ false → hop_fault words vars s h ≡ None
  hop_unknown e = ap (λ a. known a (λ b. way_miss words vars s h.from.0 h.to.0 h.way h.step b)) (ap place_of (sym is) ∙ place_never row some e)

  pub hop_known : is_number 1 (get_or row 0 (pos 0)) ≡ true → hop_fault words vars s h ≡ way_miss words vars s h.from.0 h.to.0 h.way h.step (box_of (take (length row - 1) (drop 1 row)))
  hop_known e = ap (λ a. known a (λ b. way_miss words vars s h.from.0 h.to.0 h.way h.step b)) (ap place_of (sym is) ∙ place_known row some e ∙ ap (λ t. within (box_of t)) (sym (take_rest row 1)))

-- the first fault of the hops that are left
abbrev pub hops_fault : Prog → List ℤ → List Hop → Option Fault
hops_fault p s [] = None
hops_fault p s (h ∷ hs) = or_else (hop_fault (words_of p h.step) p.vars s h) (hops_fault p s hs)

in_turn : {A : Type 0} (x y z : Option A) → or_else x (or_else y z) ≡ or_else (or_else x y) z
in_turn (Some a) y z = refl
in_turn None y z = refl

by_two : {A : Type 0} (a : At) (f g : Box → Option A) (z : Option A) → or_else (known a f) (or_else (known a g) z) ≡ or_else (known a (λ b. or_else (f b) (g b))) z
by_two never f g z = refl
by_two (within b) f g z = in_turn (f b) (g b) z

by_one : {A : Type 0} (a : At) (f : Box → Option A) (z : Option A) → or_else (known a f) z ≡ or_else (known a (λ b. or_else (f b) None)) z
by_one never f z = refl
by_one (within b) f z = ap (λ o. or_else o z) (none (f b))
  where
    none : {A : Type 0} (o : Option A) → o ≡ or_else o None
    none (Some x) = refl
    none None = refl

ways_fault : (p : Prog) (s : List ℤ) (n : ℕ) (i : Step) (hs : List Hop) → hops_fault p s (ways n i ++ hs) ≡ or_else (step_fault (words_of p i) p.vars s n i) (hops_fault p s hs)
ways_fault p s n (Set x e) hs = refl
ways_fault p s n (Add x e f) hs = refl
ways_fault p s n (Sub x e f) hs = refl
ways_fault p s n (Mul x c e) hs = refl
ways_fault p s n (Load x a e) hs = refl
ways_fault p s n (Store a e f) hs = refl
ways_fault p s n (Ask x) hs = refl
ways_fault p s n (Show e) hs = refl
ways_fault p s n (Go t) hs = by_one (place_in p.vars s n) (way_miss (words_of p (Go t)) p.vars s n t.0 Jump (Go t)) (hops_fault p s hs)
ways_fault p s n (Less e f t) hs = by_two (place_in p.vars s n) (way_miss (words_of p (Less e f t)) p.vars s n t.0 Jump (Less e f t)) (way_miss (words_of p (Less e f t)) p.vars s n (n + 1) Next (Less e f t)) (hops_fault p s hs)
ways_fault p s n Stop hs = refl

pub hops_steps : (p : Prog) (s : List ℤ) (n : ℕ) (is : List Step) → hops_fault p s (hops_from n is) ≡ steps_fault p s n is
hops_steps p s n [] = refl
hops_steps p s n (i ∷ is) = ways_fault p s n i (hops_from (n + 1) is) ∙ ap (or_else (step_fault (words_of p i) p.vars s n i)) (hops_steps p s (n + 1) is)

-- what a check answers, from what it finds
module _ {E F : Type 0} (f : E → F) (r : Result (Unit {0}) E) (q : Result (Unit {0}) F) (fine : r ≡ Ok tt → q ≡ Ok tt) (bad : (e : E) → r ≡ Err e → q ≡ Err (f e)) where
  pub mapped : (o : Option E) → r ≡ unless o → q ≡ unless (option_map f o)
  mapped None e = fine e
  mapped (Some x) e = bad x e

pub unless_none : {E : Type 0} (o : Option E) (x : Unit {0}) → Ok x ≡ unless o → o ≡ None
unless_none None x e = refl
unless_none (Some y) x e = absurd (true≢false (ap is_ok e))

pub unless_some : {E : Type 0} (o : Option E) (y : E) → Err y ≡ unless o → o ≡ Some y
unless_some None y e = absurd (true≢false (sym (ap is_ok e)))
unless_some (Some z) y e = ap Some (let same : z ≡ y = cc in same)
