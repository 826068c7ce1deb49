-- The room left to grow: a round that changes something leaves less of it, and none leaves more.
use Rattle.std.proofs.Common.{◌≡◌, ℕ, zero, suc, ◌+◌, ◌*◌, ◌^◌, ◌<◌, ◌≤◌, Bool, true, false, cond, not, ◌&&◌, ◌||◌, T, List, [], ◌∷◌, length, set, ℤ, Some, sym, refl, ap, ◌∙◌, inl, inr, arith}
use borrow.Author.Differences.{abs_is}
use Rattle.std.specs.List.{slice_get}
use Rattle.std.proofs.lemmas.Bool.{and_cases}
use Rattle.number.specs.Numbers.{le_z}
use Rattle.program.specs.declared.Step.{Step}
use Rattle.program.specs.Program.{Prog, counts_of}
use Rattle.program.specs.Rows.{Program}
use Rattle.program.proofs.Within.{nth_within}
use Rattle.interval.specs.declared.Range.{Range}
use Rattle.interval.specs.declared.Way.{Way}
use Rattle.interval.specs.declared.Way.TheVariants.{Jump, Next}
use Rattle.interval.specs.Ranges.{Box, At, never, within, join, inside1, Inside, AtLeast}
use Rattle.interval.specs.Laws.{Bits1, InBits, BitsAt, LongAt}
use Rattle.interval.proofs.Order.{order}
use Rattle.table.specs.Tables.{Table, at}
use Rattle.table.proofs.Steps.{target_there}
use Rattle.table.proofs.Nothing.{nth-ok_i}
use Rattle.table.specs.Hops.{lands}
use Rattle.fixpoint.specs.Hops.{carries}
use Rattle.fixpoint.specs.Least.{Sound}
use Rattle.fixpoint.specs.Rounds.{join_box, join_at, covers_box, covers, Round, round_hop, round, room_range, room_box, room_at, room_table, room}
use Rattle.fixpoint.specs.Says.{RoundLowers, RoundNoMore}
use Rattle.fixpoint.proofs.Hops.{sweep_keeps}
use Rattle.fixpoint.proofs.Sweeps.{carries_long, carries_bits, hop_sound}

-- 1 for a change
abbrev once : Bool → ℕ
once t = cond t 1 0

once_and : (x y : Bool) → once (not (x && y)) ≤ once (not x) + once (not y)
once_and true y = omega arith
once_and false y = omega arith

once_or : (x y : Bool) → once (x || y) ≤ once x + once y
once_or true y = omega arith
once_or false y = omega arith

-- joining in what doesn't lie inside leaves less room
range_room : (r q : Range) → Bits1 r → Bits1 q → room_range (join r q) + once (not (inside1 q r)) ≤ room_range r
range_room r q h k = by (inside1 q r) refl
  where
    by : (t : Bool) → inside1 q r ≡ t → room_range (join r q) + once (not t) ≤ room_range r
    by true e = omega (arith, order, abs_is)
    by false e = elim (and_cases (le_z r.lo q.lo) (le_z q.hi r.hi) e) [ inl l ↦ omega (arith, order, abs_is) | inr l ↦ omega (arith, order, abs_is) ]

range-most : (r : Range) → Bits1 r → room_range r ≤ 2 ^ 65
range-most r h = omega (arith, order, abs_is)

box_room : (b c : Box) → length b ≡ length c → InBits b → InBits c → room_box (join_box b c) + once (not (covers_box c b)) ≤ room_box b
box_room [] [] e h k = omega arith
box_room [] (q ∷ c) e h k = absurd (omega arith)
box_room (r ∷ b) [] e h k = absurd (omega arith)
box_room (r ∷ b) (q ∷ c) e h k =
    let first = range_room r q h.0 k.0 in
    let rest = box_room b c (omega arith) h.1 k.1 in
    let change = once_and (inside1 q r) (covers_box c b) in
    omega arith

box_most : (b : Box) → InBits b → room_box b ≤ length b * 2 ^ 65
box_most [] h = omega arith
box_most (r ∷ b) h =
    let first = range-most r h.0 in
    let rest = box_most b h.1 in
    omega arith

at_room : (k : ℕ) (a c : At) → LongAt k a → LongAt k c → BitsAt a → BitsAt c → room_at k (join_at a c) + once (not (covers c a)) ≤ room_at k a
at_room k never never l m h i = omega arith
at_room k never (within c) l m h i = let e = box_most c i in omega (arith, m)
at_room k (within b) never l m h i = omega arith
at_room k (within b) (within c) l m h i = box_room b c (l ∙ sym m) h i

table_room : (k : ℕ) (t : Table) (m : ℕ) (a : At) → m < length t → room_table k (set t m a) + room_at k (at t m) ≡ room_table k t + room_at k a
table_room k [] m a l = absurd (omega arith)
table_room k (x ∷ t) zero a l = omega arith
table_room k (x ∷ t) (suc m) a l = let e = table_room k t m a (omega arith) in omega arith

-- what contains another leaves no more room
box_no_more : (b c : Box) → Inside b c → InBits b → InBits c → room_box c ≤ room_box b
box_no_more [] [] h k l = omega arith
box_no_more [] (q ∷ c) h k l = absurd h
box_no_more (r ∷ b) [] h k l = absurd h
box_no_more (r ∷ b) (q ∷ c) h k l =
    let first : room_range q ≤ room_range r = range_no_more r q h.0 k.0 l.0 in
    let rest = box_no_more b c h.1 k.1 l.1 in
    omega arith
  where
    range_no_more : (r q : Range) → T (inside1 r q) → Bits1 r → Bits1 q → room_range q ≤ room_range r
    range_no_more r q h k l = omega (arith, order, abs_is)

at_no_more : (k : ℕ) (a c : At) → AtLeast a c → LongAt k c → BitsAt a → BitsAt c → room_at k c ≤ room_at k a
at_no_more k never never h l i j = omega arith
at_no_more k never (within c) h l i j = let e = box_most c j in omega (arith, l)
at_no_more k (within b) never h l i j = absurd h
at_no_more k (within b) (within c) h l i j = box_no_more b c h i j

table_no_more : (k : ℕ) (t u : Table) → length u ≡ length t → ((n : ℕ) → room_at k (at u n) ≤ room_at k (at t n)) → room_table k u ≤ room_table k t
table_no_more k [] [] e h = omega arith
table_no_more k [] (c ∷ u) e h = absurd (omega arith)
table_no_more k (a ∷ t) [] e h = absurd (omega arith)
table_no_more k (a ∷ t) (c ∷ u) e h =
    let first = h 0 in
    let rest = table_no_more k t u (omega arith) (λ n. h (suc n)) in
    omega arith

pub no_more : (p : Prog) (t u : Table) → Sound p t → Sound p u → ((n : ℕ) → AtLeast (at t n) (at u n)) → room p u ≤ room p t
no_more p t u h k c = table_no_more p.vars t u (k.long ∙ sym h.long) (λ n. at_no_more p.vars (at t n) (at u n) (c n) (k.full n) (h.bits n) (k.bits n))

-- the place to which a hop leads is there
pub lands_there : (s : List ℤ) (p : Prog) (n : ℕ) (i : Step) (w : Way) → Program s p → slice_get p.code n ≡ Some i → lands n i w ≤ length p.code
lands_there s p n i Jump is e = target_there (counts_of p) i (nth-ok_i s p n i is e)
lands_there s p n i Next is e = let l = nth_within p.code n i e in omega arith

hop_room : (s : List ℤ) (p : Prog) (n : ℕ) (i : Step) (w : Way) (r : Round) → Program s p → slice_get p.code n ≡ Some i → Sound p r.table → room p (round_hop p n i w r).table + once (round_hop p n i w r).changed ≤ room p r.table + once r.changed
hop_room s p n i w r is e h =
    let t = r.table in
    let m = lands n i w in
    let made = carries p t n i w in
    let place = at_room p.vars (at t m) made (h.full m) (carries_long p t n i w h) (h.bits m) (carries_bits p t n i w (nth-ok_i s p n i is e) h) in
    let there : m < length t = let l = lands_there s p n i w is e in let k = h.long in omega arith in
    let all = table_room p.vars t m (join_at (at t m) made) there in
    let change = once_or r.changed (not (covers made (at t m))) in
    omega arith

round_room : (s : List ℤ) (p : Prog) (t : Table) → Program s p → Sound p t → room p (round p t).table + once (round p t).changed ≤ room p t
round_room s p t is h = (sweep_keeps Left (round_hop p) p hop _ (h, omega arith)).1
  where
    Left : Round → Type 0
    Left r = Sound p r.table × (room p r.table + once r.changed ≤ room p t)

    hop : (n : ℕ) (i : Step) (w : Way) (r : Round) → slice_get p.code n ≡ Some i → Left r → Left (round_hop p n i w r)
    hop n i w r e k = (hop_sound s p n i w r is e k.0, let l = hop_room s p n i w r is e k.0 in omega (arith, k.1))

pub round_lowers : RoundLowers
round_lowers s p t is h e = let l = round_room s p t is h in let c = ap once e in omega arith

pub round_no_more : RoundNoMore
round_no_more s p t is h = let l = round_room s p t is h in omega arith
