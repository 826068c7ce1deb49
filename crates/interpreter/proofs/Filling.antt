-- What the loops that lay out memory go by.
use Rattle.std.proofs.Common.{◌≡◌, ℕ, zero, suc, ◌+◌, ◌^◌, ◌<◌, ◌≤◌, ℤ, pos, ◌+ℤ◌, w64, SFits, to_z, of_z, List, [], ◌∷◌, ◌++◌, length, get_or, take, set, sym, refl, ap, ◌∙◌, subst, ap₂, arith}
use borrow.Author.Rules.{sfits_of}
use Rattle.std.specs.List.{AllByRecursion}
use Rattle.std.proofs.lemmas.Int.{to_z-of_z}
use Rattle.std.proofs.lemmas.List.{append_assoc, take_more_set}
use Rattle.program.specs.Program.{total}
use Rattle.program.specs.Rows.{nats}

next : (k : ℕ) → k + 1 ≡ suc k
next k = omega arith

-- one element more
pub all_more : {X : Type 0} (P : X → Type 0) (s : List X) (k : ℕ) (d : X) → AllByRecursion P (take k s) → P (get_or s k d) → k < length s → AllByRecursion P (take (k + 1) s)
all_more P s k d h p l = rw next (go s k h p l)
  where
    go : (s : List _) (k : ℕ) → AllByRecursion P (take k s) → P (get_or s k d) → k < length s → AllByRecursion P (take (suc k) s)
    go [] k h p l = absurd (omega arith)
    go (x ∷ s) zero h p l = (p, tt)
    go (x ∷ s) (suc k) h p l = (h.0, go s k h.1 p (omega arith))

-- one number more is written before those still to come
pub written_more : {X : Type 0} (s ys : List X) (k : ℕ) (x : X) → k < length s → take (k + 1) (set s k x) ++ ys ≡ take k s ++ (x ∷ ys)
written_more s ys k x l = ap (λ r. r ++ ys) (take_more_set s k x l) ∙ append_assoc (take k s) (x ∷ []) ys

-- the lengths of arrays, and how long those before one are
pub nats_at : (ns : List ℕ) (k : ℕ) → k < length ns → get_or (nats ns) k (pos 0) ≡ pos (get_or ns k 0)
nats_at [] k l = absurd (omega arith)
nats_at (n ∷ ns) zero l = refl
nats_at (n ∷ ns) (suc k) l = nats_at ns k (omega arith)

pub total_more : (ns : List ℕ) (k : ℕ) → k < length ns → (total (take (k + 1) ns) ≡ total (take k ns) + get_or ns k 0) × (total (take k ns) + get_or ns k 0 ≤ total ns)
total_more ns k l = rw next (go ns k l)
  where
    go : (ns : List ℕ) (k : ℕ) → k < length ns → (total (take (suc k) ns) ≡ total (take k ns) + get_or ns k 0) × (total (take k ns) + get_or ns k 0 ≤ total ns)
    go [] k l = absurd (omega arith)
    go (n ∷ ns) zero l = (omega arith, omega arith)
    go (n ∷ ns) (suc k) l = let h = go ns k (omega arith) in (omega (arith, h.0), omega (arith, h.1))

-- numbers that are added in 64 bits
pub added : (z w : ℤ) (a b : ℕ) → z ≡ pos a → w ≡ pos b → a + b < 2 ^ 63 → (to_z w64 (of_z w64 (z +ℤ to_z w64 (of_z w64 w))) ≡ pos (a + b)) × SFits w64 (z +ℤ to_z w64 (of_z w64 w))
added z w a b e f l =
    let small : to_z w64 (of_z w64 w) ≡ pos b = ap (λ w. to_z w64 (of_z w64 w)) f ∙ to_z-of_z w64 (pos b) (sfits_of (omega arith)) in
    let sum : z +ℤ to_z w64 (of_z w64 w) ≡ pos (a + b) = ap₂ ◌+ℤ◌ e small in
    let fits : SFits w64 (pos (a + b)) = sfits_of l in
    (ap (λ z. to_z w64 (of_z w64 z)) sum ∙ to_z-of_z w64 (pos (a + b)) fits, subst (SFits w64) (sym sum) fits)
