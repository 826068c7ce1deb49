-- Rows that are known to be there: the step of a kind.
use Rattle.std.proofs.Common.{◌≡◌, ℕ, zero, suc, List, ◌++◌, get_or, drop, ℤ, pos, sym, refl, ap, ◌∙◌, subst}
use Rattle.program.specs.declared.Operand.{Operand}
use Rattle.program.specs.declared.Step.{Step}
use Rattle.program.specs.declared.Step.TheVariants.{Set, Add, Sub, Mul, Load, Store, Ask, Show, Go, Less, Stop}
use Rattle.program.specs.Rows.{row_v, row_i}
use Rattle.program.specs.Reading.{variable}
use Rattle.machine.specs.Fetching.{row_n, row_two, Begins, Fetched}

-- what stands behind the kind of a step with an array and a variable, or with a number that names something and two operands, of
-- which it is made
module _ (s : List ℤ) (i : Step) (rest : List ℤ) where
  abbrev Two : (ℕ × Operand × Operand → Step) → Type 0
  Two make = (t : ℕ × Operand × Operand) × (make t ≡ i) × (drop 1 s ≡ row_two t ++ rest)

  pub two_begins : (make : ℕ × Operand × Operand → Step) → Two make → Begins row_two (drop 1 s)
  two_begins make w = (w.0, rest, w.2)

  pub two_made : (make : ℕ × Operand × Operand → Step) (r : ℕ × Operand × Operand) → Two make → Fetched row_two (drop 1 s) r → make r ≡ i
  two_made make r w fetched = ap make (fetched w.0 rest w.2) ∙ w.1

  abbrev pub Behind : ℕ → Type 0
  Behind zero = Unit {0}
  Behind (suc zero) = Two (λ t. Add (variable t.0) t.1 t.2)
  Behind (suc (suc zero)) = Two (λ t. Sub (variable t.0) t.1 t.2)
  Behind (suc (suc (suc zero))) = Unit {0}
  Behind (suc (suc (suc (suc zero)))) = Begins row_n (drop 2 s)
  Behind (suc (suc (suc (suc (suc zero))))) = Two (λ t. Store (record { 0 = t.0 }) t.1 t.2)
  Behind (suc (suc (suc (suc (suc (suc zero)))))) = Unit {0}
  Behind (suc (suc (suc (suc (suc (suc (suc zero))))))) = Unit {0}
  Behind (suc (suc (suc (suc (suc (suc (suc (suc zero)))))))) = Unit {0}
  Behind (suc (suc (suc (suc (suc (suc (suc (suc (suc zero))))))))) = Two (λ t. Less t.1 t.2 (record { 0 = t.0 }))
  Behind (suc (suc (suc (suc (suc (suc (suc (suc (suc (suc n)))))))))) = Unit {0}

pub by_kind : (s : List ℤ) (i : Step) (rest : List ℤ) (k : ℕ) → s ≡ row_i i ++ rest → get_or s 0 (pos 0) ≡ pos k → Behind s i rest k
by_kind s i rest k h q = subst (λ s. get_or s 0 (pos 0) ≡ pos k → Behind s i rest k) (sym h) (go i) q
  where
    at_kind : (i : Step) (j : ℕ) → Behind (row_i i ++ rest) i rest j → pos j ≡ pos k → Behind (row_i i ++ rest) i rest k
    at_kind i j w e = let same : j ≡ k = cc in subst (Behind (row_i i ++ rest) i rest) same w

    go : (i : Step) → get_or (row_i i ++ rest) 0 (pos 0) ≡ pos k → Behind (row_i i ++ rest) i rest k
    go (Set x e) = at_kind (Set x e) 0 tt
    go (Add x e f) = at_kind (Add x e f) 1 ((x.0, e, f), refl, refl)
    go (Sub x e f) = at_kind (Sub x e f) 2 ((x.0, e, f), refl, refl)
    go (Mul x z e) = at_kind (Mul x z e) 3 tt
    go (Load x a e) = at_kind (Load x a e) 4 (a.0, row_v e ++ rest, refl)
    go (Store a e f) = at_kind (Store a e f) 5 ((a.0, e, f), refl, refl)
    go (Ask x) = at_kind (Ask x) 6 tt
    go (Show e) = at_kind (Show e) 7 tt
    go (Go t) = at_kind (Go t) 8 tt
    go (Less e f t) = at_kind (Less e f t) 9 ((t.0, e, f), refl, refl)
    go Stop = at_kind Stop 10 tt
