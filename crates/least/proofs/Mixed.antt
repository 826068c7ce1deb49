-- Joining into a table what contains it, place by place.
use Rattle.std.proofs.Common.{◌≡◌, ℕ, zero, suc, ◌+◌, ◌<◌, ◌≤◌, T, [], ◌∷◌, ◌++◌, length, take, drop, set, refl, ap, ◌∙◌, ap₂, arith}
use borrow.Author.Differences.{same_in}
use Rattle.std.proofs.lemmas.List.{append-nil, take_all, drop_all}
use Rattle.number.specs.Numbers.{least, most}
use Rattle.interval.specs.declared.Range.{Range}
use Rattle.interval.specs.Ranges.{Box, At, never, within, join, inside1, Inside, AtLeast}
use Rattle.interval.proofs.Order.{order}
use Rattle.table.specs.Tables.{Table, at}
use Rattle.table.proofs.Rows.{length-table_of}
use Rattle.fixpoint.specs.Rounds.{join_box, join_at}

-- joining what contains it
larger_range : (r q : Range) → T (inside1 r q) → join r q ≡ q
larger_range r q h =
    let l : least r.lo q.lo ≡ q.lo = omega (arith, order, same_in) in
    let m : most r.hi q.hi ≡ q.hi = omega (arith, order, same_in) in
    ap₂ (λ a b. record { lo = a; hi = b }) l m

larger_box : (b c : Box) → Inside b c → join_box b c ≡ c
larger_box [] c h = refl
larger_box (r ∷ b) [] h = absurd h
larger_box (r ∷ b) (q ∷ c) h = ap₂ (λ r b. r ∷ b) (larger_range r q h.0) (larger_box b c h.1)

pub join_larger : (a c : At) → AtLeast a c → join_at a c ≡ c
join_larger never c h = refl
join_larger (within b) never h = absurd h
join_larger (within b) (within c) h = ap within (larger_box b c h)

-- the first n places of m and the others of t
abbrev pub mixed : ℕ → Table → Table → Table
mixed n m t = take n m ++ drop n t

at_mixed : (n : ℕ) (m t : Table) → length m ≡ length t → n < length t → at (mixed n m t) n ≡ at t n
at_mixed n m [] e l = absurd (omega arith)
at_mixed n [] (a ∷ t) e l = absurd (omega arith)
at_mixed zero (b ∷ m) (a ∷ t) e l = refl
at_mixed (suc n) (b ∷ m) (a ∷ t) e l = at_mixed n m t (omega arith) (omega arith)

set_mixed : (n : ℕ) (m t : Table) → length m ≡ length t → n < length t → set (mixed n m t) n (at m n) ≡ mixed (suc n) m t
set_mixed n m [] e l = absurd (omega arith)
set_mixed n [] (a ∷ t) e l = absurd (omega arith)
set_mixed zero (b ∷ m) (a ∷ t) e l = refl
set_mixed (suc n) (b ∷ m) (a ∷ t) e l = ap (λ x. b ∷ x) (set_mixed n m t (omega arith) (omega arith))

-- one more place
pub mixed_more : (n : ℕ) (m t u u' : Table) → length m ≡ length t → n < length t → AtLeast (at t n) (at m n) → u ≡ mixed n m t → u' ≡ set u n (join_at (at u n) (at m n)) → u' ≡ mixed (n + 1) m t
mixed_more n m t u u' e l h is next =
    let one : suc n ≡ n + 1 = omega arith in
    next
    ∙ ap (λ u. set u n (join_at (at u n) (at m n))) is
    ∙ ap (set (mixed n m t) n) (ap (λ a. join_at a (at m n)) (at_mixed n m t e l) ∙ join_larger (at t n) (at m n) h)
    ∙ set_mixed n m t e l
    ∙ ap (λ n. mixed n m t) one

-- and all of them
pub mixed_all : (n : ℕ) (m t : Table) → length m ≡ length t → length t ≤ n → mixed n m t ≡ m
mixed_all n m t e l = ap₂ (λ x y. x ++ y) (take_all n m (omega arith)) (drop_all n t l) ∙ append-nil m

pub ruleset mixes = (length-table_of, mixed_more, mixed_all)
