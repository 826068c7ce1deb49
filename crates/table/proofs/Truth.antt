-- What a table that holds says is true of every state that a run reaches, and a licensed test never fails.
use Rattle.std.proofs.Common.{◌≡◌, ℕ, zero, suc, ◌+◌, Bool, true, false, cond, not, ◌&&◌, T, ltb, leb, List, [], ◌∷◌, get_or, set, replicate, ℤ, pos, negsuc, ◌+ℤ◌, ◌-ℤ◌, ◌*ℤ◌, Some, None, Option, refl, ap, ◌∙◌, subst, arith}
use Rattle.std.specs.List.{slice_get, AllByRecursion}
use Rattle.std.proofs.lemmas.List.{set-get_or}
use Rattle.std.proofs.ByRecursion.{All-set}
use Rattle.program.specs.declared.Step.{Step}
use Rattle.program.specs.declared.Step.TheVariants.{Set, Add, Sub, Mul, Load, Store, Ask, Show, Go, Less, Stop}
use Rattle.program.specs.declared.Operand.{Operand}
use Rattle.program.specs.declared.Operand.TheVariants.{Num, Var}
use Rattle.program.specs.Program.{Prog, counts_of}
use Rattle.program.specs.Rows.{Program, ok_i, ok_v}
use Rattle.number.specs.Numbers.{le_z, less_z, in64}
use Rattle.program.specs.Runs.{State, Run, on, stopped, fails, value, next, to, tested, words, index_of, index, first_of, rest_of, act, act_or, step, steps, blank, begin}
use Rattle.program.proofs.Results.{both}
use Rattle.interval.specs.declared.Range.{Range}
use Rattle.interval.specs.Ranges.{Box, At, never, within, any, only, range, cut, some_left, plus, minus, scaled, held, inside, narrowed, and_then, if_less, if_not, Inside, AtLeast}
use Rattle.interval.proofs.Order.{order, product_keeps, product_turns}
use Rattle.table.specs.Tables.{Table, at, zeros, words_of, leads, Carried, Holds}
use Rattle.interval.specs.Tests.{in_bits, in_array, sure}
use Rattle.table.specs.Licences.{sure_at, licensed_step, licensed, InRange, TrueOf, TablesTrue, NeverFails}
use Rattle.table.proofs.Nothing.{nth-ok_i}

-- a number in a range: a record, so that neither need be written
record Lies (r : Range) (z : ℤ) : Type 0 where
  from : T (le_z r.lo z)
  upto : T (le_z z r.hi)

lies_only : (z : ℤ) → Lies (only z) z
lies_only z = record { from = omega (arith, order); upto = omega (arith, order) }

lies_any : {z : ℤ} → T (in64 z) → Lies any z
lies_any h = record { from = omega (arith, order); upto = omega (arith, order) }

cut_in : {r q : Range} {z : ℤ} → Lies r z → Lies q z → Lies (cut r q) z
cut_in h k = record { from = omega (arith, order); upto = omega (arith, order) }

plus_in : {r q : Range} {y z : ℤ} → Lies r y → Lies q z → Lies (plus r q) (y +ℤ z)
plus_in h k = record { from = omega (arith, order); upto = omega (arith, order) }

minus_in : {r q : Range} {y z : ℤ} → Lies r y → Lies q z → Lies (minus r q) (y -ℤ z)
minus_in h k = record { from = omega (arith, order); upto = omega (arith, order) }

scaled_in : (c : ℤ) {r : Range} {z : ℤ} → Lies r z → Lies (scaled c r) (c *ℤ z)
scaled_in (pos n) {r} {z} h =
    let s : T (le_z (pos 0) (pos n)) = omega (arith, order) in
    let a = product_keeps (pos n) r.lo z s h.from in
    let b = product_keeps (pos n) z r.hi s h.upto in
    record { from = omega (arith, order); upto = omega (arith, order) }
scaled_in (negsuc n) {r} {z} h =
    let a = product_turns (negsuc n) r.lo z tt h.from in
    let b = product_turns (negsuc n) z r.hi tt h.upto in
    record { from = omega (arith, order); upto = omega (arith, order) }

-- variables in their ranges
get_in : (b : Box) (vs : List ℤ) (x : ℕ) → InRange b vs → Lies (get_or b x any) (get_or vs x (pos 0))
get_in [] [] x h = record { from = tt; upto = tt }
get_in [] (v ∷ vs) x h = absurd h
get_in (r ∷ b) [] x h = absurd h
get_in (r ∷ b) (v ∷ vs) zero h = record { from = h.0; upto = h.1 }
get_in (r ∷ b) (v ∷ vs) (suc x) h = get_in b vs x h.2

set_in : (b : Box) (vs : List ℤ) (x : ℕ) {r : Range} {z : ℤ} → InRange b vs → Lies r z → InRange (set b x r) (set vs x z)
set_in [] [] x h k = tt
set_in [] (v ∷ vs) x h k = absurd h
set_in (r ∷ b) [] x h k = absurd h
set_in (r ∷ b) (v ∷ vs) zero h k = (k.from, k.upto, h.2)
set_in (r ∷ b) (v ∷ vs) (suc x) h k = (h.0, h.1, set_in b vs x h.2 k)

range_in : (b : Box) (vs : List ℤ) (e : Operand) → InRange b vs → Lies (range b e) (value vs e)
range_in b vs (Num z) h = lies_only z
range_in b vs (Var x) h = get_in b vs x.0 h

inside_in : (b c : Box) (vs : List ℤ) → Inside b c → InRange b vs → InRange c vs
inside_in [] [] vs l h = h
inside_in [] (q ∷ c) vs l h = absurd l
inside_in (r ∷ b) [] vs l h = absurd l
inside_in (r ∷ b) (q ∷ c) [] l h = absurd h
inside_in (r ∷ b) (q ∷ c) (v ∷ vs) l h = let k = l.0 in let f = h.0 in let u = h.1 in (omega (arith, order), omega (arith, order), inside_in b c vs l.1 h.2)

zeros_in : (k : ℕ) → InRange (zeros k) (replicate k (pos 0))
zeros_in zero = tt
zeros_in (suc k) = (tt, tt, zeros_in k)

-- what is known at a place is true of the variables
abbrev TrueAt : At → List ℤ → Type 0
TrueAt never vs = ⊥
TrueAt (within b) vs = InRange b vs

at_least_true : (a c : At) (vs : List ℤ) → AtLeast a c → TrueAt a vs → TrueAt c vs
at_least_true never c vs l h = absurd h
at_least_true (within b) never vs l h = absurd l
at_least_true (within b) (within c) vs l h = inside_in b c vs l h

cond_true_at : (t : Bool) (b : Box) (vs : List ℤ) → T t → InRange b vs → TrueAt (cond t (within b) never) vs
cond_true_at true b vs l h = h
cond_true_at false b vs l h = absurd l

-- something is left of a range that a number lies in
held_true : (b : Box) (vs : List ℤ) (x : ℕ) {r : Range} {z : ℤ} → InRange b vs → Lies r z → TrueAt (held b x r) (set vs x z)
held_true b vs x {r} {z} h k = cond_true_at (some_left r) (set b x r) (set vs x z) (omega (arith, order)) (set_in b vs x h k)

narrowed_true : (b : Box) (vs : List ℤ) (e : Operand) {r : Range} → InRange b vs → Lies r (value vs e) → TrueAt (narrowed b e r) vs
narrowed_true b vs (Num z) {r} h k = cond_true_at (le_z r.lo z && le_z z r.hi) b vs (omega (arith, order)) h
narrowed_true b vs (Var x) {r} h k = subst (TrueAt (held b x.0 (cut (get_or b x.0 any) r))) (set-get_or vs x.0 (pos 0)) (held_true b vs x.0 h (cut_in (get_in b vs x.0 h) k))

then_true : (a : At) (f : Box → At) (vs ws : List ℤ) → TrueAt a vs → ((c : Box) → InRange c vs → TrueAt (f c) ws) → TrueAt (and_then a f) ws
then_true never f vs ws h k = absurd h
then_true (within b) f vs ws h k = k b h

both_true : (b : Box) (vs : List ℤ) (e f : Operand) {r q : Range} → InRange b vs → Lies r (value vs e) → Lies q (value vs f) → TrueAt (and_then (narrowed b e r) (λ c. narrowed c f q)) vs
both_true b vs e f {r} {q} h k l = then_true (narrowed b e r) (λ c. narrowed c f q) vs vs (narrowed_true b vs e h k) (λ c g. narrowed_true c vs f g l)

-- a test of two operands
module _ (b : Box) (vs : List ℤ) (e f : Operand) (h : InRange b vs) (u : T (in64 (value vs e))) (v : T (in64 (value vs f))) where
  if_less_true : T (less_z (value vs e) (value vs f)) → TrueAt (if_less b e f) vs
  if_less_true l =
      let i = range_in b vs e h in
      let j = range_in b vs f h in
      both_true b vs e f h (record { from = omega (arith, order); upto = omega (arith, order) }) (record { from = omega (arith, order); upto = omega (arith, order) })

  if_not_true : T (le_z (value vs f) (value vs e)) → TrueAt (if_not b e f) vs
  if_not_true l =
      let i = range_in b vs e h in
      let j = range_in b vs f h in
      both_true b vs e f h (record { from = omega (arith, order); upto = omega (arith, order) }) (record { from = omega (arith, order); upto = omega (arith, order) })

-- a sure test passes
in_bits-sure : {r : Range} {z : ℤ} → Lies r z → T (in_bits r) → T (in64 z)
in_bits-sure h k = omega (arith, order)

in_array-sure : (n : ℕ) {r : Range} (z : ℤ) → Lies r z → T (in_array n r) → T (index_of n z)
in_array-sure n {r} (pos i) h k = let l = both (le_z (pos 0) r.lo) (less_z r.hi (pos n)) k in less l.1
  where
    less : T (less_z r.hi (pos n)) → T (less_z (pos i) (pos n))
    less l = omega (arith, order)
in_array-sure n {r} (negsuc i) h k = let l = (both (le_z (pos 0) r.lo) (less_z r.hi (pos n)) k).0 in absurd (omega (arith, order))

index-inside : (n : ℕ) (z : ℤ) → T (index_of n z) → Lies (inside n) z
index-inside n (pos i) h = let l : T (less_z (pos i) (pos n)) = h in record { from = omega (arith, order); upto = omega (arith, order) }
index-inside n (negsuc i) h = absurd h

not_passed : (a b : Bool) → (T a → T b) → b ≡ false → a ≡ false
not_passed true b h e = absurd (subst T e (h tt))
not_passed false b h e = refl

-- numbers that have their place in 64 bits
abbrev Bits : List ℤ → Type 0
Bits vs = AllByRecursion (λ z. T (in64 z)) vs

all_or : {X : Type 0} (P : X → Type 0) (xs : List X) (i : ℕ) (d : X) → P d → AllByRecursion P xs → P (get_or xs i d)
all_or P [] i d p h = p
all_or P (x ∷ xs) zero d p h = h.0
all_or P (x ∷ xs) (suc i) d p h = all_or P xs i d p h.1

value_bits : (k : ℕ) (vs : List ℤ) (e : Operand) → T (ok_v k e) → Bits vs → T (in64 (value vs e))
value_bits k vs (Num z) ok h = ok
value_bits k vs (Var x) ok h = all_or (λ z. T (in64 z)) vs x.0 (pos 0) tt h

first_bits : (zs : List ℤ) → Bits zs → T (in64 (first_of zs))
first_bits [] h = tt
first_bits (z ∷ zs) h = h.0

rest_bits : (zs : List ℤ) → Bits zs → Bits (rest_of zs)
rest_bits [] h = tt
rest_bits (z ∷ zs) h = h.1

zero_bits : (n : ℕ) → Bits (replicate n (pos 0))
zero_bits zero = tt
zero_bits (suc n) = (tt, zero_bits n)

blank_bits : (ns : List ℕ) → AllByRecursion Bits (blank ns)
blank_bits [] = tt
blank_bits (n ∷ ns) = (zero_bits n, blank_bits ns)

-- the table is true of a state, all of whose numbers have their place in 64 bits
record Good (t : Table) (s : State) : Type 0 where
  known : TrueAt (at t s.at) s.vars
  vars : Bits s.vars
  arrays : AllByRecursion Bits s.arrays
  asked : Bits s.asked

-- a run that goes on is at such a state, and one that failed did so where the table licenses nothing
abbrev Fine : Prog → Table → Run → Type 0
Fine p t (on s) = Good t s
Fine p t (stopped s) = Unit {0}
Fine p t (fails a s) = licensed p t a ≡ false

module _ (p : Prog) (t : Table) where
  by_test : (u : Bool) (r q : Run) → (T u → Fine p t r) → (u ≡ false → Fine p t q) → Fine p t (cond u r q)
  by_test true r q h k = h tt
  by_test false r q h k = k refl

  -- a step from a state whose variables lie in b
  module _ (s : State) (b : Box) (h : InRange b s.vars) (g : Good t s) where
    set_bits : (x : ℕ) (z : ℤ) → T (in64 z) → Bits (set s.vars x z)
    set_bits x z i = All-set (λ z. T (in64 z)) s.vars x z i g.vars

    next_good : (a : At) (vs : List ℤ) → AtLeast a (at t (s.at + 1)) → TrueAt a vs → Bits vs → Good t (next s vs)
    next_good a vs c u v = record { known = at_least_true a (at t (s.at + 1)) vs c u; vars = v; arrays = g.arrays; asked = g.asked }

    to_good : (n : ℕ) (a : At) → AtLeast a (at t n) → TrueAt a s.vars → Good t (to s n)
    to_good n a c u = record { known = at_least_true a (at t n) s.vars c u; vars = g.vars; arrays = g.arrays; asked = g.asked }

    tested_fine : (x : ℕ) {r : Range} {z : ℤ} → Lies r z → AtLeast (held b x (cut r any)) (at t (s.at + 1)) → (in_bits r ≡ false → licensed p t s.at ≡ false) → Fine p t (tested s x z)
    tested_fine x {r} {z} l c k =
        by_test (in64 z) (on (next s (set s.vars x z))) (fails s.at s)
        (λ i. next_good (held b x (cut r any)) (set s.vars x z) c (held_true b s.vars x h (cut_in l (lies_any i))) (set_bits x z i))
        (λ e. k (not_passed (in_bits r) (in64 z) (in_bits-sure l) e))

    indexed_fine : (n : ℕ) (e : Operand) (r : Run) → (TrueAt (narrowed b e (inside n)) s.vars → Fine p t r) → (in_array n (range b e) ≡ false → licensed p t s.at ≡ false) → Fine p t (cond (index_of n (value s.vars e)) r (fails s.at s))
    indexed_fine n e r f k =
        by_test (index_of n (value s.vars e)) r (fails s.at s)
        (λ i. f (narrowed_true b s.vars e h (index-inside n (value s.vars e) i)))
        (λ q. k (not_passed (in_array n (range b e)) (index_of n (value s.vars e)) (in_array-sure n (value s.vars e) (range_in b s.vars e h)) q))

    operand_bits : (e : Operand) → T (ok_v p.vars e) → T (in64 (value s.vars e))
    operand_bits e ok = value_bits p.vars s.vars e ok g.vars

    array_bits : (a : ℕ) → Bits (get_or s.arrays a [])
    array_bits a = all_or Bits s.arrays a [] tt g.arrays

    load_true : (x n : ℕ) (e : Operand) (z : ℤ) → T (in64 z) → TrueAt (narrowed b e (inside n)) s.vars → TrueAt (and_then (narrowed b e (inside n)) (λ c. within (set c x any))) (set s.vars x z)
    load_true x n e z i u = then_true (narrowed b e (inside n)) (λ c. within (set c x any)) s.vars (set s.vars x z) u (λ c l. set_in c s.vars x l (lies_any i))

    less_good : (e f : Operand) (n : ℕ) → T (in64 (value s.vars e)) → T (in64 (value s.vars f)) → AtLeast (if_less b e f) (at t n) → AtLeast (if_not b e f) (at t (s.at + 1)) → Good t (cond (less_z (value s.vars e) (value s.vars f)) (to s n) (to s (s.at + 1)))
    less_good e f n u v c d = go (less_z (value s.vars e) (value s.vars f)) (λ l. l) (λ l. l)
      where
        go : (l : Bool) → (T l → T (less_z (value s.vars e) (value s.vars f))) → (T (not l) → T (le_z (value s.vars f) (value s.vars e))) → Good t (cond l (to s n) (to s (s.at + 1)))
        go true i j = to_good n (if_less b e f) c (if_less_true b s.vars e f h u v (i tt))
        go false i j = to_good (s.at + 1) (if_not b e f) d (if_not_true b s.vars e f h u v (j tt))

    act_fine : (i : Step) → T (ok_i (counts_of p) i) → Carried t (leads p s.at b i) → (sure (words_of p i) b i ≡ false → licensed p t s.at ≡ false) → Fine p t (act p s i)
    act_fine (Set x e) ok c k =
        next_good (within (set b x.0 (range b e))) (set s.vars x.0 (value s.vars e)) c.1.0
        (set_in b s.vars x.0 h (range_in b s.vars e h))
        (set_bits x.0 (value s.vars e) (operand_bits e (both (ltb x.0 p.vars) _ ok).1))
    act_fine (Add x e f) ok c k = tested_fine x.0 (plus_in (range_in b s.vars e h) (range_in b s.vars f h)) c.1.0 k
    act_fine (Sub x e f) ok c k = tested_fine x.0 (minus_in (range_in b s.vars e h) (range_in b s.vars f h)) c.1.0 k
    act_fine (Mul x z e) ok c k = tested_fine x.0 (scaled_in z (range_in b s.vars e h)) c.1.0 k
    act_fine (Load x a e) ok c k =
        let n = words p a.0 in
        let z = get_or (get_or s.arrays a.0 []) (index (value s.vars e)) (pos 0) in
        let i = all_or (λ z. T (in64 z)) (get_or s.arrays a.0 []) (index (value s.vars e)) (pos 0) tt (array_bits a.0) in
        indexed_fine n e (on (next s (set s.vars x.0 z))) (λ u. next_good (and_then (narrowed b e (inside n)) (λ c. within (set c x.0 any))) (set s.vars x.0 z) c.1.0 (load_true x.0 n e z i u) (set_bits x.0 z i)) k
    act_fine (Store a e f) ok c k =
        let n = words p a.0 in
        let v = value s.vars f in
        let i = operand_bits f (both (ok_v p.vars e) (ok_v p.vars f) (both (ltb a.0 (counts_of p).arrays) _ ok).1).1 in
        indexed_fine n e _ (λ u. record { known = at_least_true (narrowed b e (inside n)) (at t (s.at + 1)) s.vars c.1.0 u; vars = g.vars; arrays = All-set Bits s.arrays a.0 _ (All-set (λ z. T (in64 z)) (get_or s.arrays a.0 []) (index (value s.vars e)) v i (array_bits a.0)) g.arrays; asked = g.asked }) k
    act_fine (Ask x) ok c k =
        let i = first_bits s.asked g.asked in
        record { known = at_least_true (within (set b x.0 any)) (at t (s.at + 1)) (set s.vars x.0 (first_of s.asked)) c.1.0 (set_in b s.vars x.0 h (lies_any i)); vars = set_bits x.0 (first_of s.asked) i; arrays = g.arrays; asked = rest_bits s.asked g.asked }
    act_fine (Show e) ok c k = record { known = at_least_true (within b) (at t (s.at + 1)) s.vars c.1.0 h; vars = g.vars; arrays = g.arrays; asked = g.asked }
    act_fine (Go n) ok c k = to_good n.0 (within b) c.0 h
    act_fine (Less e f n) ok c k =
        let o = both (ok_v p.vars e) (ok_v p.vars f) (both (leb n.0 (counts_of p).steps) _ ok).1 in
        less_good e f n.0 (operand_bits e o.0) (operand_bits f o.1) c.0 c.1.0
    act_fine Stop ok c k = tt

  -- any number of steps
  module _ (rows : List ℤ) (is : Program rows p) (holds : Holds p t) where
    at_fine : (s : State) (a : At) (o : Option Step) → at t s.at ≡ a → slice_get p.code s.at ≡ o → TrueAt a s.vars → Good t s → Fine p t (act_or p s o)
    at_fine s a None e f h g = tt
    at_fine s never (Some i) e f h g = absurd h
    at_fine s (within b) (Some i) e f h g =
        let same : licensed p t s.at ≡ sure (words_of p i) b i = ap (licensed_step p t s.at) f ∙ ap (λ a. sure_at (words_of p i) a i) e in
        act_fine s b h g i (nth-ok_i rows p s.at i is f) (holds.steps s.at i b f e) (λ q. same ∙ q)

    step_fine : (r : Run) → Fine p t r → Fine p t (step p r)
    step_fine (on s) g = at_fine s (at t s.at) (slice_get p.code s.at) refl refl g.known g
    step_fine (stopped s) g = tt
    step_fine (fails a s) g = g

    steps_fine : (n : ℕ) (r : Run) → Fine p t r → Fine p t (steps n p r)
    steps_fine zero r g = g
    steps_fine (suc n) r g = steps_fine n (step p r) (step_fine r g)

    begin_fine : (asked : List ℤ) → Bits asked → Fine p t (begin p asked)
    begin_fine asked h = record { known = at_least_true (within (zeros p.vars)) (at t 0) (replicate p.vars (pos 0)) holds.start (zeros_in p.vars); vars = zero_bits p.vars; arrays = blank_bits p.arrays; asked = h }

    runs_fine : (n : ℕ) (asked : List ℤ) (r : Run) → Bits asked → steps n p (begin p asked) ≡ r → Fine p t r
    runs_fine n asked r h e = subst (Fine p t) e (steps_fine n (begin p asked) (begin_fine asked h))

pub tables_true : TablesTrue
tables_true s p t asked n x is holds h e = go (at t x.at) refl (runs_fine p t s is holds n asked (on x) h e).known
  where
    go : (a : At) → at t x.at ≡ a → TrueAt a x.vars → TrueOf t x
    go never q k = absurd k
    go (within b) q k = (b, q, k)

pub never_fails : NeverFails
never_fails s p t asked n a x is holds h e = runs_fine p t s is holds n asked (fails a x) h e
