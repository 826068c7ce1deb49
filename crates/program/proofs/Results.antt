-- Results one after another, and single numbers of the rows.
use Rattle.std.proofs.Common.{◌≡◌, ℕ, zero, suc, ◌+◌, Bool, true, false, cond, ◌&&◌, T, List, [], ◌∷◌, ◌++◌, length, drop, ℤ, pos, negsuc, Some, None, Ok, Err, Option, Result, sym, refl, ap, ◌∙◌, subst, add-one, arith}
use Rattle.std.specs.List.{slice_get}
use Rattle.std.proofs.lemmas.List.{drop-drop, drop_at}
use Rattle.program.specs.declared.refusal.Field.{Field}
use Rattle.program.specs.declared.refusal.Field.TheVariants.{Number}
use Rattle.program.specs.declared.refusal.Reason.TheVariants.{Outside}
use Rattle.number.specs.Numbers.{in64}
use Rattle.program.specs.Reading.{and_then, refused, present, number_in, literal_in, as_index, index_in, allows}

pub T_true : (b : Bool) → T b → b ≡ true
T_true true h = refl
T_true false h = absurd h

pub true-T : (b : Bool) → b ≡ true → T b
true-T b e = subst T (sym e) tt

pub both : (a b : Bool) → T (a && b) → T a × T b
both true b h = (tt, h)
both false b h = absurd h

pub both-T : (a b : Bool) → T a → T b → T (a && b)
both-T true b h k = k
both-T false b h k = absurd h

pub ok_same : {A E : Type 0} (x y : A) → ◌≡◌ {A = Result A E} (Ok x) (Ok y) → x ≡ y
ok_same x y e = cc

pub err_not_ok : {A E : Type 0} (f : E) (y : A) → ◌≡◌ {A = Result A E} (Err f) (Ok y) → ⊥
err_not_ok f y e = let z : ◌≡◌ {A = ℕ} 0 1 = cc in omega arith

pub then_by : {A B E : Type 0} (r : Result A E) (k : A → Result B E) (x : A) (t : Result B E) → r ≡ Ok x → k x ≡ t → and_then r k ≡ t
then_by r k x t e h = ap (λ q. and_then q k) e ∙ h

pub then_was : {A B E : Type 0} (r : Result A E) (k : A → Result B E) (y : B) → and_then r k ≡ Ok y → (x : A) × (r ≡ Ok x) × (k x ≡ Ok y)
then_was (Ok x) k y e = (x, refl, e)
then_was (Err f) k y e = absurd (err_not_ok f y e)

pub cond_was : {A E : Type 0} (b : Bool) (x y : A) (f : E) → ◌≡◌ {A = Result A E} (cond b (Ok x) (Err f)) (Ok y) → (x ≡ y) × T b
cond_was true x y f e = (ok_same x y e, tt)
cond_was false x y f e = absurd (err_not_ok f y e)

-- a list and its k-th element
pub nth_drop : {X : Type 0} (s : List X) (k : ℕ) (x : X) (t : List X) → drop k s ≡ x ∷ t → slice_get s k ≡ Some x
nth_drop [] zero x t e = absurd (let z : ◌≡◌ {A = ℕ} 0 1 = cc in omega arith)
nth_drop [] (suc k) x t e = absurd (let z : ◌≡◌ {A = ℕ} 0 1 = cc in omega arith)
nth_drop (y ∷ s) zero x t e = cc
nth_drop (y ∷ s) (suc k) x t e = nth_drop s k x t e

pub drop_nth : {X : Type 0} (s : List X) (k : ℕ) (x : X) → slice_get s k ≡ Some x → drop k s ≡ x ∷ drop (k + 1) s
drop_nth [] k x e = absurd (let z : ◌≡◌ {A = ℕ} 0 1 = cc in omega arith)
drop_nth (y ∷ s) zero x e = cc
drop_nth (y ∷ s) (suc k) x e = rw add-one (drop_nth s k x e ∙ rw add-one refl)

pub drop-next : {X : Type 0} (s : List X) (k n : ℕ) (p t : List X) → drop k s ≡ p ++ t → length p ≡ n → drop (k + n) s ≡ t
drop-next s k n p t e h = sym (drop-drop n k s) ∙ ap (drop n) e ∙ drop_at p t n h

-- a number that is to be so large, and one that is to fit 64 bits
pub index_reads : (s : List ℤ) (k : ℕ) (f : Field) (n : ℕ) → T (allows f n) → slice_get s k ≡ Some (pos n) → index_in s k f ≡ Ok n
index_reads s k f n h e = rw (e, T_true (allows f n) h)

pub index_was : (s : List ℤ) (k : ℕ) (f : Field) (n : ℕ) → index_in s k f ≡ Ok n → (slice_get s k ≡ Some (pos n)) × T (allows f n)
index_was s k f n e = go (slice_get s k) e
  where
    go : (o : Option ℤ) → and_then (present (length s) f o) (as_index k f) ≡ Ok n → (o ≡ Some (pos n)) × T (allows f n)
    go None q = absurd (err_not_ok _ n q)
    go (Some (pos m)) q =
        let w = cond_was (allows f m) m n _ q in
        (ap (λ i. Some (pos i)) w.0, subst (λ i. T (allows f i)) w.0 w.1)
    go (Some (negsuc m)) q = absurd (err_not_ok _ n q)

pub literal_reads : (s : List ℤ) (k : ℕ) (z : ℤ) → T (in64 z) → slice_get s k ≡ Some z → literal_in s k ≡ Ok z
literal_reads s k z h e = rw (e, T_true (in64 z) h)

pub literal_was : (s : List ℤ) (k : ℕ) (z : ℤ) → literal_in s k ≡ Ok z → (slice_get s k ≡ Some z) × T (in64 z)
literal_was s k z e =
    let v = then_was (number_in s k Number) (λ y. cond (in64 y) (Ok y) (refused k (Outside Number y))) z e in
    let w = cond_was (in64 v.0) v.0 z _ v.2 in
    (present_was (slice_get s k) v.0 v.1 ∙ ap Some w.0, subst (λ i. T (in64 i)) w.0 w.1)
  where
    present_was : (o : Option ℤ) (y : ℤ) → present (length s) Number o ≡ Ok y → o ≡ Some y
    present_was None y q = absurd (err_not_ok _ y q)
    present_was (Some x) y q = ap Some (ok_same x y q)
