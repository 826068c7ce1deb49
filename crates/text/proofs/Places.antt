-- Lines and columns, counted. Assumes nothing.
use Rattle.std.proofs.Common.{◌≡◌, ℕ, suc, ◌+◌, Bool, true, false, cond, not, eqb, List, [], ◌∷◌, ◌++◌, reverse, sym, refl, ap, ◌∙◌, arith}
use Rattle.std.specs.List.{count_by, prefix_len}
use Rattle.std.proofs.lemmas.List.{reverse-append, reverse-reverse}
use Rattle.std.proofs.lemmas.List.Recursion.{is_count_by}
use Rattle.text.specs.Words.{feeds, since}

pub feeds_counted : (bs : List ℕ) → feeds bs ≡ count_by (λ b. eqb b 10) bs
feeds_counted = is_count_by feeds (λ b. eqb b 10) refl (λ b bs. one (eqb b 10) (feeds bs))
  where
    one : (t : Bool) (n : ℕ) → elim t [ true ↦ suc n | false ↦ n ] ≡ cond t (1 + n) n
    one true n = omega arith
    one false n = refl

since_push : (bs : List ℕ) (n b : ℕ) → since n (bs ++ b ∷ []) ≡ cond (not (eqb b 10)) (1 + since n bs) 0
since_push [] n b = last (eqb b 10)
  where
    last : (t : Bool) → elim t [ true ↦ 0 | false ↦ suc n ] ≡ cond (not t) (1 + n) 0
    last true = refl
    last false = omega arith
since_push (a ∷ bs) n b = first (eqb a 10) (λ m. since_push bs m b)
  where
    first : (t : Bool) → ((m : ℕ) → since m (bs ++ b ∷ []) ≡ cond (not (eqb b 10)) (1 + since m bs) 0) → elim t [ true ↦ since 0 (bs ++ b ∷ []) | false ↦ since (suc n) (bs ++ b ∷ []) ] ≡ cond (not (eqb b 10)) (1 + elim t [ true ↦ since 0 bs | false ↦ since (suc n) bs ]) 0
    first true more = more 0
    first false more = more (suc n)

since_back : (bs : List ℕ) → since 0 (reverse bs) ≡ prefix_len (λ b. not (eqb b 10)) bs
since_back [] = refl
since_back (b ∷ bs) =
    ap (since 0) (reverse-append (b ∷ []) bs)
    ∙ since_push (reverse bs) 0 b
    ∙ ap (λ n. cond (not (eqb b 10)) (1 + n) 0) (since_back bs)

pub since_counted : (bs : List ℕ) → since 0 bs ≡ prefix_len (λ b. not (eqb b 10)) (reverse bs)
since_counted bs = ap (since 0) (sym (reverse-reverse bs)) ∙ since_back (reverse bs)
