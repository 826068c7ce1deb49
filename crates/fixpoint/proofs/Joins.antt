-- The laws of joining, and of whether one lies inside another.
use Rattle.std.proofs.Common.{◌≡◌, ℕ, T, [], ◌∷◌, length, refl, ap, ap₂, arith}
use borrow.Author.Differences.{same_in}
use Rattle.std.specs.List.{AllByRecursion}
use Rattle.number.specs.Numbers.{least, most}
use Rattle.program.proofs.Results.{both, both-T}
use Rattle.interval.specs.declared.Range.{Range}
use Rattle.interval.specs.Ranges.{Box, At, never, within, join, inside1, Inside, AtLeast}
use Rattle.interval.specs.Laws.{Proper, Bits1, InBits, Known, ProperAt, BitsAt, LongAt}
use Rattle.interval.proofs.Order.{order}
use Rattle.interval.proofs.Monotone.{inside_refl}
use Rattle.fixpoint.specs.Rounds.{join_box, join_at, covers_box, covers}
use Rattle.fixpoint.specs.Says.{CoversIs}

-- the test and the fact
covers_box_out : (b c : Box) → T (covers_box b c) → Inside b c
covers_box_out [] [] h = tt
covers_box_out [] (q ∷ c) h = h
covers_box_out (r ∷ b) [] h = h
covers_box_out (r ∷ b) (q ∷ c) h = let k = both (inside1 r q) (covers_box b c) h in (k.0, covers_box_out b c k.1)

covers_box_in : (b c : Box) → Inside b c → T (covers_box b c)
covers_box_in [] [] h = tt
covers_box_in [] (q ∷ c) h = h
covers_box_in (r ∷ b) [] h = h
covers_box_in (r ∷ b) (q ∷ c) h = both-T (inside1 r q) (covers_box b c) h.0 (covers_box_in b c h.1)

pub covers_out : (a c : At) → T (covers a c) → AtLeast a c
covers_out never c h = tt
covers_out (within b) never h = h
covers_out (within b) (within c) h = covers_box_out b c h

covers_in : (a c : At) → AtLeast a c → T (covers a c)
covers_in never c h = tt
covers_in (within b) never h = h
covers_in (within b) (within c) h = covers_box_in b c h

pub covers_is : CoversIs
covers_is a c = (covers_out a c, covers_in a c)

-- what knows as much as another that knows as much as it is that
range_same : (r q : Range) → T (inside1 r q) → T (inside1 q r) → r ≡ q
range_same r q h k =
    let l : r.lo ≡ q.lo = omega (arith, order, same_in) in
    let m : r.hi ≡ q.hi = omega (arith, order, same_in) in
    ap₂ (λ a b. record { lo = a; hi = b }) l m

box_same : (b c : Box) → Inside b c → Inside c b → b ≡ c
box_same [] [] h k = refl
box_same [] (q ∷ c) h k = absurd h
box_same (r ∷ b) [] h k = absurd h
box_same (r ∷ b) (q ∷ c) h k = ap₂ (λ r b. r ∷ b) (range_same r q h.0 k.0) (box_same b c h.1 k.1)

pub at_same : (a c : At) → AtLeast a c → AtLeast c a → a ≡ c
at_same never never h k = refl
at_same never (within c) h k = absurd k
at_same (within b) never h k = absurd h
at_same (within b) (within c) h k = ap within (box_same b c h k)

-- a join is the least that holds both
least_box : (b c d : Box) → Inside b d → Inside c d → Inside (join_box b c) d
least_box [] c d h k = k
least_box (r ∷ b) [] d h k = h
least_box (r ∷ b) (q ∷ c) [] h k = absurd h
least_box (r ∷ b) (q ∷ c) (s ∷ d) h k = (omega (arith, order), least_box b c d h.1 k.1)

pub join_least : (a c d : At) → AtLeast a d → AtLeast c d → AtLeast (join_at a c) d
join_least never c d h k = k
join_least (within b) never d h k = h
join_least (within b) (within c) never h k = h
join_least (within b) (within c) (within d) h k = least_box b c d h k

box_joined : (b c : Box) → length b ≡ length c → Inside b (join_box b c)
box_joined [] [] e = tt
box_joined [] (q ∷ c) e = absurd (omega arith)
box_joined (r ∷ b) [] e = absurd (omega arith)
box_joined (r ∷ b) (q ∷ c) e = (omega (arith, order), box_joined b c (omega arith))

pub joined_least : (k : ℕ) (a c : At) → LongAt k a → LongAt k c → AtLeast a (join_at a c)
joined_least k never c h l = tt
joined_least k (within b) never h l = inside_refl b
joined_least k (within b) (within c) h l = box_joined b c (omega arith)

-- joining what lies inside changes nothing
join-range : (r q : Range) → T (inside1 q r) → join r q ≡ r
join-range r q h =
    let l : least r.lo q.lo ≡ r.lo = omega (arith, order, same_in) in
    let m : most r.hi q.hi ≡ r.hi = omega (arith, order, same_in) in
    ap₂ (λ a b. record { lo = a; hi = b }) l m

join_box_lem : (b c : Box) → Inside c b → join_box b c ≡ b
join_box_lem [] [] h = refl
join_box_lem [] (q ∷ c) h = absurd h
join_box_lem (r ∷ b) [] h = refl
join_box_lem (r ∷ b) (q ∷ c) h = ap₂ (λ r b. r ∷ b) (join-range r q h.0) (join_box_lem b c h.1)

pub join_same : (a c : At) → AtLeast c a → join_at a c ≡ a
join_same never never h = refl
join_same never (within c) h = absurd h
join_same (within b) never h = refl
join_same (within b) (within c) h = ap within (join_box_lem b c h)

-- what is true of both is true of the join
join_known : (Q : Box → Type 0) → ((b c : Box) → Q b → Q c → Q (join_box b c)) → (a c : At) → Known Q a → Known Q c → Known Q (join_at a c)
join_known Q f never c h k = k
join_known Q f (within b) never h k = h
join_known Q f (within b) (within c) h k = f b c h k

join-all : (P : Range → Type 0) → ((r q : Range) → P r → P q → P (join r q)) → (b c : Box) → AllByRecursion P b → AllByRecursion P c → AllByRecursion P (join_box b c)
join-all P f [] c h k = k
join-all P f (r ∷ b) [] h k = h
join-all P f (r ∷ b) (q ∷ c) h k = (f r q h.0 k.0, join-all P f b c h.1 k.1)

pub join_proper : (a c : At) → ProperAt a → ProperAt c → ProperAt (join_at a c)
join_proper = join_known Proper (join-all _ (λ r q h k. omega (arith, order)))

pub join_bits : (a c : At) → BitsAt a → BitsAt c → BitsAt (join_at a c)
join_bits = join_known InBits (join-all Bits1 (λ r q h k. (omega (arith, order), omega (arith, order))))

long_box : (k : ℕ) (b c : Box) → length b ≡ k → length c ≡ k → length (join_box b c) ≡ k
long_box k [] c h l = l
long_box k (r ∷ b) [] h l = h
long_box k (r ∷ b) (q ∷ c) h l = let e = long_box (length b) b c refl (omega arith) in omega arith

pub join_long : (k : ℕ) (a c : At) → LongAt k a → LongAt k c → LongAt k (join_at a c)
join_long k = join_known (λ b. length b ≡ k) (long_box k)
