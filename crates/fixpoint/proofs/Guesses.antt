-- A guess that is confirmed is right.
use Rattle.std.proofs.Common.{◌≡◌, ℕ, zero, suc, ◌+◌, Bool, true, false, ◌||◌, T, ◌↔◌, [], ◌∷◌, length, refl, ap, ◌∙◌, arith}
use borrow.Author.Differences.{up, down}
use Rattle.number.specs.Numbers.{le_z, less_z}
use Rattle.program.specs.Program.{Prog}
use Rattle.program.proofs.Results.{both}
use Rattle.interval.specs.declared.Range.{Range}
use Rattle.interval.specs.Ranges.{Box, At, never, within, inside1, Inside, AtLeast}
use Rattle.interval.specs.Laws.{Proper, Known}
use Rattle.interval.proofs.Order.{order}
use Rattle.table.specs.Tables.{Table, at, Holds}
use Rattle.fixpoint.specs.Growth.{Grows1, Grows, GrowsAt, GrowsT}
use Rattle.fixpoint.specs.Confirming.{sweeps_of, reached1, reached_box, reached_at, reached, Follows, GuessOver, GuessRight}
use Rattle.fixpoint.proofs.Confirming.{sweeps_keep}

-- what it takes to be reached, place by place
reached_at_lem : (t m s : Table) → T (reached t m s) → (n : ℕ) → T (reached_at (at t n) (at m n) (at s n))
reached_at_lem [] [] [] h n = tt
reached_at_lem [] [] (v ∷ s) h n = absurd h
reached_at_lem [] (q ∷ m) s h n = absurd h
reached_at_lem (a ∷ t) [] s h n = absurd h
reached_at_lem (a ∷ t) (q ∷ m) [] h n = absurd h
reached_at_lem (a ∷ t) (q ∷ m) (v ∷ s) h zero = (both (reached_at a q v) _ h).0
reached_at_lem (a ∷ t) (q ∷ m) (v ∷ s) h (suc n) = reached_at_lem t m s (both (reached_at a q v) _ h).1 n

either : {P : Type 0} (a b : Bool) → T (a || b) → (T a → P) → (T b → P) → P
either true b h f g = f tt
either false b h f g = g h

reached1_grows : {r q v : Range} → T (reached1 r q v) → Grows1 1 r q v
reached1_grows {r} {q} {v} h =
    let k = both (inside1 r q) _ h in
    let i = k.0 in
    let j = both (le_z v.lo q.lo || less_z v.lo r.lo) _ k.1 in
    record {
      lo_in = omega (arith, order);
      hi_in = omega (arith, order);
      lo_grows = either (le_z v.lo q.lo) (less_z v.lo r.lo) j.0 (λ t. omega (arith, order)) (λ t. omega (arith, order));
      hi_grows = either (le_z q.hi v.hi) (less_z r.hi v.hi) j.1 (λ t. omega (arith, order)) (λ t. omega (arith, order));
    }

reached_box_grows : (b m s : Box) → T (reached_box b m s) → Grows 1 b m s
reached_box_grows [] [] [] h = tt
reached_box_grows [] [] (v ∷ s) h = h
reached_box_grows [] (q ∷ m) s h = h
reached_box_grows (r ∷ b) [] s h = h
reached_box_grows (r ∷ b) (q ∷ m) [] h = h
reached_box_grows (r ∷ b) (q ∷ m) (v ∷ s) h = let k = both (reached1 r q v) _ h in (reached1_grows k.0, reached_box_grows b m s k.1)

-- m contains t
grows_inside : (d : ℕ) (b m s : Box) → Grows d b m s → Inside b m
grows_inside d [] [] s h = tt
grows_inside d [] (q ∷ m) s h = h
grows_inside d (r ∷ b) [] s h = h
grows_inside d (r ∷ b) (q ∷ m) [] h = absurd h
grows_inside d (r ∷ b) (q ∷ m) (v ∷ s) h = let i = h.0 in (omega (arith, order), grows_inside d b m s h.1)

over_contains : (a m s : At) → T (reached_at a m s) → AtLeast a m
over_contains never m s h = tt
over_contains (within b) never s h = h
over_contains (within b) (within m) never h = absurd h
over_contains (within b) (within m) (within s) h = grows_inside 1 b m s (reached_box_grows b m s h)

-- What contains b contains it grown by 0. If s reaches b grown by 1, and u reaches s grown by d, u reaches b grown by 1 + d. What reaches b
-- grown by every d contains m.
none : (b m u : Box) → Inside b m → Inside b u → Grows 0 b m u
none [] [] [] h k = tt
none [] [] (x ∷ u) h k = k
none [] (q ∷ m) u h k = h
none (r ∷ b) [] u h k = h
none (r ∷ b) (q ∷ m) [] h k = k
none (r ∷ b) (q ∷ m) (x ∷ u) h k = let i = h.0 in let j = k.0 in (omega (arith, order), none b m u h.1 k.1)

more : (d : ℕ) (b m s u : Box) → Grows 1 b m s → Grows d s m u → Grows (suc d) b m u
more d [] [] [] u h k = k
more d [] [] (v ∷ s) u h k = absurd h
more d [] (q ∷ m) s u h k = absurd h
more d (r ∷ b) [] s u h k = absurd h
more d (r ∷ b) (q ∷ m) [] u h k = absurd h
more d (r ∷ b) (q ∷ m) (v ∷ s) [] h k = k
more d (r ∷ b) (q ∷ m) (v ∷ s) (x ∷ u) h k = let i = h.0 in let j = k.0 in (omega (arith, order), more d b m s u h.1 k.1)

all : (b m u : Box) → ((d : ℕ) → Grows d b m u) → Inside m u
all [] [] [] h = tt
all [] [] (x ∷ u) h = h 0
all [] (q ∷ m) u h = absurd (h 0)
all (r ∷ b) [] u h = absurd (h 0)
all (r ∷ b) (q ∷ m) [] h = h 0
all (r ∷ b) (q ∷ m) (x ∷ u) h =
    let i = (h (up r.lo + down q.lo)).0 in
    let j = (h (up q.hi + down r.hi)).0 in
    (omega (arith, order), all b m u (λ d. (h d).1))

none_at : (a m u : At) → AtLeast a m → AtLeast a u → GrowsAt 0 a m u
none_at never m u h k = tt
none_at (within b) never u h k = h
none_at (within b) (within m) never h k = k
none_at (within b) (within m) (within u) h k = none b m u h k

more_at : (d : ℕ) (a m s u : At) → T (reached_at a m s) → GrowsAt d s m u → GrowsAt (suc d) a m u
more_at d never m s u h k = tt
more_at d (within b) never s u h k = h
more_at d (within b) (within m) never u h k = absurd h
more_at d (within b) (within m) (within s) never h k = k
more_at d (within b) (within m) (within s) (within u) h k = more d b m s u (reached_box_grows b m s h) k

all_at : (a m s u : At) → T (reached_at a m s) → ((d : ℕ) → GrowsAt d a m u) → AtLeast m u
all_at never never s u h k = tt
all_at never (within m) s u h k = absurd h
all_at (within b) never s u h k = tt
all_at (within b) (within m) s never h k = k 0
all_at (within b) (within m) s (within u) h k = all b m u k

-- a table that follows and has reached shows that the guess is right
module _ (p : Prog) (t m s : Table) (follows : Follows p t m s) (far : T (reached t m s)) (u : Table) (holds : Holds p u) (below : (n : ℕ) → AtLeast (at t n) (at u n)) where
  grown : (d : ℕ) → GrowsT d t m u
  grown zero n = none_at (at t n) (at m n) (at u n) (over_contains (at t n) (at m n) (at s n) (reached_at_lem t m s far n)) (below n)
  grown (suc d) n = more_at d (at t n) (at m n) (at s n) (at u n) (reached_at_lem t m s far n) (follows d u holds (grown d) n)

  contains : (n : ℕ) → AtLeast (at m n) (at u n)
  contains n = all_at (at t n) (at m n) (at s n) (at u n) (reached_at_lem t m s far n) (λ d. grown d n)

pub guess_right : GuessRight
guess_right p t m k proper c below u h =
    let kept = sweeps_keep p t m k t (record { follows = λ d u h g. g; proper = proper }) in
    contains p t m (sweeps_of k p m t) kept.follows c u h (below u h)

-- what a guess that is confirmed is like
reached_long : (t m s : Table) → T (reached t m s) → length m ≡ length t
reached_long [] [] [] h = refl
reached_long [] [] (v ∷ s) h = absurd h
reached_long [] (q ∷ m) s h = absurd h
reached_long (a ∷ t) [] s h = absurd h
reached_long (a ∷ t) (q ∷ m) [] h = absurd h
reached_long (a ∷ t) (q ∷ m) (v ∷ s) h = ap suc (reached_long t m s (both (reached_at a q v) _ h).1)

inside_long : (b c : Box) → Inside b c → length c ≡ length b
inside_long [] [] h = refl
inside_long [] (q ∷ c) h = absurd h
inside_long (r ∷ b) [] h = absurd h
inside_long (r ∷ b) (q ∷ c) h = ap suc (inside_long b c h.1)

inside_proper : (b c : Box) → Inside b c → Proper b → Proper c
inside_proper [] [] h p = tt
inside_proper [] (q ∷ c) h p = absurd h
inside_proper (r ∷ b) [] h p = absurd h
inside_proper (r ∷ b) (q ∷ c) h p = let i = h.0 in let j = p.0 in (omega (arith, order), inside_proper b c h.1 p.1)

over_same : (a m s : At) → T (reached_at a m s) → (m ≡ never) ↔ (a ≡ never)
over_same never never s h = (λ e. refl, λ e. refl)
over_same never (within m) s h = absurd h
over_same (within b) never s h = absurd h
over_same (within b) (within m) s h = (λ e. absurd (let z : ◌≡◌ {A = ℕ} 0 1 = cc in omega arith), λ e. absurd (let z : ◌≡◌ {A = ℕ} 0 1 = cc in omega arith))

-- what goes from a box over to one that contains it does so from t to m
over_known : (Q : Box → Type 0) → ((b c : Box) → Inside b c → Q b → Q c) → (a m s : At) → T (reached_at a m s) → Known Q a → Known Q m
over_known Q f never never s h q = tt
over_known Q f never (within m) s h q = absurd h
over_known Q f (within b) never s h q = tt
over_known Q f (within b) (within m) s h q = f b m (over_contains (within b) (within m) s h) q

pub guess_over : GuessOver
guess_over p t m k c =
    let s = sweeps_of k p m t in
    let far = reached_at_lem t m s c in
    record {
      long = reached_long t m s c;
      same = λ n. over_same (at t n) (at m n) (at s n) (far n);
      contains = λ n. over_contains (at t n) (at m n) (at s n) (far n);
      full = λ k n h. over_known (λ b. length b ≡ k) (λ b c i e. inside_long b c i ∙ e) (at t n) (at m n) (at s n) (far n) h;
      proper = λ h n. over_known Proper inside_proper (at t n) (at m n) (at s n) (far n) (h n);
    }
