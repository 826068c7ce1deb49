-- A refusal names a number of the rows, or the one behind their last.
use Rattle.std.proofs.Common.{◌≡◌, ℕ, zero, suc, ◌+◌, ◌<◌, ◌≤◌, Bool, true, false, cond, eqb, List, [], ◌∷◌, length, ℤ, pos, negsuc, Some, None, Ok, Err, Option, Result, refl, arith}
use Rattle.std.specs.List.{slice_get}
use Rattle.program.specs.declared.reader.Counts.{Counts}
use Rattle.program.specs.declared.refusal.Field.{Field}
use Rattle.program.specs.declared.refusal.Field.TheVariants.{Kind, OperandKind, Number, Variable, Array, Place}
use Rattle.program.specs.declared.refusal.Refusal.{Refusal}
use Rattle.number.specs.Numbers.{in64}
use Rattle.program.specs.Reading.{and_then, present, number_in, literal_in, as_index, index_in, operand_in, two_in, step_in, allows}

abbrev pub Within : {A : Type 0} → ℕ → Result A Refusal → Type 0
Within n (Ok x) = Unit {0}
Within n (Err f) = f.at ≤ n

then_within : {A B : Type 0} (n : ℕ) (r : Result A Refusal) (k : A → Result B Refusal) → Within n r → ((x : A) → Within n (k x)) → Within n (and_then r k)
then_within n (Ok x) k h g = g x
then_within n (Err f) k h g = h

cond_within : {A : Type 0} (n : ℕ) (b : Bool) (x y : Result A Refusal) → Within n x → Within n y → Within n (cond b x y)
cond_within n true x y h g = h
cond_within n false x y h g = g

pub nth_within : {X : Type 0} (s : List X) (k : ℕ) (x : X) → slice_get s k ≡ Some x → k < length s
nth_within [] k x e = absurd (let z : ◌≡◌ {A = ℕ} 0 1 = cc in omega arith)
nth_within (y ∷ s) zero x e = omega arith
nth_within (y ∷ s) (suc k) x e = let l = nth_within s k x e in omega arith

number_within : {A : Type 0} (s : List ℤ) (k : ℕ) (f : Field) (g : ℤ → Result A Refusal) → (k < length s → (z : ℤ) → Within (length s) (g z)) → Within (length s) (and_then (number_in s k f) g)
number_within s k f g h = go (slice_get s k) refl
  where
    go : (o : Option ℤ) → slice_get s k ≡ o → Within (length s) (and_then (present (length s) f o) g)
    go None e = omega arith
    go (Some z) e = h (nth_within s k z e) z

index_within : (s : List ℤ) (k : ℕ) (f : Field) → Within (length s) (index_in s k f)
index_within s k f = number_within s k f (as_index k f) go
  where
    go : k < length s → (z : ℤ) → Within (length s) (as_index k f z)
    go l (pos n) = cond_within (length s) (allows f n) _ _ tt (omega arith)
    go l (negsuc n) = omega arith

literal_within : (s : List ℤ) (k : ℕ) → Within (length s) (literal_in s k)
literal_within s k = number_within s k Number _ (λ l z. cond_within (length s) (in64 z) _ _ tt (omega arith))

operand_within : (vars : ℕ) (s : List ℤ) (k : ℕ) → Within (length s) (operand_in vars s k)
operand_within vars s k =
    then_within (length s) _ _ (index_within s k OperandKind) λ kind.
    cond_within (length s) (eqb kind 0) _ _
    (then_within (length s) _ _ (literal_within s (k + 1)) (λ z. tt))
    (then_within (length s) _ _ (index_within s (k + 1) (Variable vars)) (λ x. tt))

two_within : (f : Field) (vars : ℕ) (s : List ℤ) → Within (length s) (two_in f vars s)
two_within f vars s =
    then_within (length s) _ _ (index_within s 1 f) λ x.
    then_within (length s) _ _ (operand_within vars s 2) λ a.
    then_within (length s) _ _ (operand_within vars s 4) λ b. tt

pub step_within : (c : Counts) (s : List ℤ) → Within (length s) (step_in c s)
step_within c s =
    then_within n _ _ (index_within s 0 Kind) λ k.
    cond_within n (eqb k 0) _ _ (then_within n _ _ (index_within s 1 (Variable c.vars)) (λ x. then_within n _ _ (operand_within c.vars s 2) (λ e. tt)))
    (cond_within n (eqb k 1) _ _ (then_within n _ _ (two_within (Variable c.vars) c.vars s) (λ t. tt))
    (cond_within n (eqb k 2) _ _ (then_within n _ _ (two_within (Variable c.vars) c.vars s) (λ t. tt))
    (cond_within n (eqb k 3) _ _ (then_within n _ _ (index_within s 1 (Variable c.vars)) (λ x. then_within n _ _ (literal_within s 2) (λ z. then_within n _ _ (operand_within c.vars s 3) (λ e. tt))))
    (cond_within n (eqb k 4) _ _ (then_within n _ _ (index_within s 1 (Variable c.vars)) (λ x. then_within n _ _ (index_within s 2 (Array c.arrays)) (λ a. then_within n _ _ (operand_within c.vars s 3) (λ e. tt))))
    (cond_within n (eqb k 5) _ _ (then_within n _ _ (two_within (Array c.arrays) c.vars s) (λ t. tt))
    (cond_within n (eqb k 6) _ _ (then_within n _ _ (index_within s 1 (Variable c.vars)) (λ x. tt))
    (cond_within n (eqb k 7) _ _ (then_within n _ _ (operand_within c.vars s 1) (λ e. tt))
    (cond_within n (eqb k 8) _ _ (then_within n _ _ (index_within s 1 (Place c.steps)) (λ t. tt))
    (cond_within n (eqb k 9) _ _ (then_within n _ _ (two_within (Place c.steps) c.vars s) (λ t. tt)) tt)))))))))
  where
    n : ℕ
    n = length s
