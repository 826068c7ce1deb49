-- Looking at each step once decides whether a table holds, and the first fault is the first step that isn't carried.
use Rattle.std.proofs.Common.{◌≡◌, ℕ, zero, suc, ◌+◌, ◌*◌, ◌<◌, ◌≤◌, eqb, ◌⊎◌, ◌↔◌, List, [], ◌∷◌, length, ℤ, Some, None, Option, sym, refl, ap, ◌∙◌, subst, inl, inr, add-zero, zero-add, arith}
use Rattle.std.specs.Option.{option_map}
use Rattle.std.specs.List.{slice_get}
use Rattle.std.proofs.lemmas.Bool.{eqb-true, eq-eqb, cond-true}
use Rattle.program.specs.declared.Step.{Step}
use Rattle.program.specs.declared.Place.{Place}
use Rattle.program.specs.Program.{Prog, counts_of}
use Rattle.program.proofs.Results.{T_true}
use Rattle.interval.specs.declared.Way.{Way}
use Rattle.interval.specs.declared.Way.TheVariants.{Jump, Next}
use Rattle.interval.specs.Ranges.{Box, At, never, within, makes, inside1, Inside, AtLeast}
use Rattle.interval.specs.Laws.{LongAt}
use Rattle.interval.proofs.Keeps.{makes-length}
use Rattle.table.specs.declared.fault.Miss.{Miss}
use Rattle.table.specs.declared.fault.Miss.TheVariants.{Never}
use Rattle.table.specs.declared.fault.Fault.{Fault}
use Rattle.table.specs.declared.fault.Fault.TheVariants.{Start, NotCarried}
use Rattle.table.specs.Tables.{Table, at, zeros, words_of, target, leads, Carried, Holds}
use Rattle.table.specs.Rows.{row_t, width, wants, place_in, table_of}
use Rattle.table.specs.Looking.{or_else, outside, missed, known, rows_fault, way_miss, step_fault, steps_fault, fault_in}
use Rattle.table.specs.Says.{Full, LookingOnce, FirstFault}
use Rattle.table.proofs.Rows.{itself, some_none, none_cond, none_or, none_mapped, Wide, length-row_t, rows_good, place_is, length-table_of, table_of_wide, table_of_rows}

-- nothing is missed where at least as much is known
outside_none : (k : ℕ) (b c : Box) → length b ≡ length c → (outside k b c ≡ None) ↔ Inside b c
outside_none k [] [] e = (λ q. tt, λ q. refl)
outside_none k [] (q ∷ c) e = absurd (omega arith)
outside_none k (r ∷ b) [] e = absurd (omega arith)
outside_none k (r ∷ b) (q ∷ c) e = none_cond (inside1 r q) (outside (k + 1) b c) _ (outside_none (k + 1) b c (omega arith))

missed_none : (k : ℕ) (a c : At) → LongAt k a → Wide k c → (missed a c ≡ None) ↔ AtLeast a c
missed_none k never c l w = (λ q. tt, λ q. refl)
missed_none k (within b) never l w = (λ q. absurd (some_none Never q), λ q. absurd q)
missed_none k (within b) (within c) l w = outside_none 0 b c (l ∙ sym (w c refl))

known_none : {A : Type 0} (a : At) (f : Box → Option A) (P : Box → Type 0) → ((b : Box) → a ≡ within b → (f b ≡ None) ↔ P b) → (known a f ≡ None) ↔ ((b : Box) → a ≡ within b → P b)
known_none never f P h = (λ q b e. absurd (let z : ◌≡◌ {A = ℕ} 0 1 = cc in omega arith), λ q. refl)
known_none (within b) f P h = (λ q c e. let same : b ≡ c = cc in subst P same ((h b refl).0 q), λ q. (h b refl).1 (q b refl))

and_no_more : {A P : Type 0} → (A ↔ P) → A ↔ (P × Unit {0})
and_no_more h = (λ a. (h.0 a, tt), λ q. h.1 q.0)

-- P of each step, of which the first stands at n
abbrev Each : (ℕ → Step → Type 0) → ℕ → List Step → Type 0
Each P n is = (k : ℕ) (i : Step) → slice_get is k ≡ Some i → P (n + k) i

each_more : (P : ℕ → Step → Type 0) (n : ℕ) (j : Step) (is : List Step) → (P n j × Each P (n + 1) is) ↔ Each P n (j ∷ is)
each_more P n j is = (there, λ h. (subst (λ m. P m j) (add-zero n) (h 0 j refl), λ k i e. let m : n + suc k ≡ n + 1 + k = omega arith in subst (λ m. P m i) m (h (suc k) i e)))
  where
    there : P n j × Each P (n + 1) is → Each P n (j ∷ is)
    there h zero i e = let same : j ≡ i = cc in rw add-zero (subst (P n) same h.0)
    there h (suc k) i e = let m : n + 1 + k ≡ n + suc k = omega arith in subst (λ m. P m i) m (h.1 k i e)

-- a fault of a step names its place
or_was : {A : Type 0} (o q : Option A) (x : A) → or_else o q ≡ Some x → (o ≡ Some x) ⊎ (q ≡ Some x)
or_was (Some y) q x e = inl e
or_was None q x e = inr e

way_names : (n to : ℕ) (o : Option Miss) (m k : Place) (x : Miss) → option_map (λ y. NotCarried (record { 0 = n }) (record { 0 = to }) y) o ≡ Some (NotCarried m k x) → n ≡ m.0
way_names n to (Some y) m k x e = let same : ◌≡◌ {A = Place} (record { 0 = n }) m = cc in ap (λ (m : Place). m.0) same
way_names n to None m k x e = absurd (let z : ◌≡◌ {A = ℕ} 0 1 = cc in omega arith)

step_names : (words vars : ℕ) (s : List ℤ) (n : ℕ) (i : Step) (m k : Place) (x : Miss) → step_fault words vars s n i ≡ Some (NotCarried m k x) → n ≡ m.0
step_names words vars s n i m k x e = go (place_in vars s n) e
  where
    go : (a : At) → known a (λ b. or_else (way_miss words vars s n (target i) Jump i b) (way_miss words vars s n (n + 1) Next i b)) ≡ Some (NotCarried m k x) → n ≡ m.0
    go never q = absurd (let z : ◌≡◌ {A = ℕ} 0 1 = cc in omega arith)
    go (within b) q = elim (or_was (way_miss words vars s n (target i) Jump i b) (way_miss words vars s n (n + 1) Next i b) _ q) [ inl h ↦ way_names n (target i) _ m k x h | inr h ↦ way_names n (n + 1) _ m k x h ]

module _ (p : Prog) (s : List ℤ) where
  abbrev fault : ℕ → Step → Option Fault
  fault n i = step_fault (words_of p i) p.vars s n i

  abbrev Faultless : ℕ → Step → Type 0
  Faultless n i = fault n i ≡ None

  steps_none : (n : ℕ) (is : List Step) → (steps_fault p s n is ≡ None) ↔ Each Faultless n is
  steps_none n [] = (λ q k i e. absurd (let z : ◌≡◌ {A = ℕ} 0 1 = cc in omega arith), λ q. refl)
  steps_none n (j ∷ is) =
      let h = none_or (fault n j) (steps_fault p s (n + 1) is) (itself _) (steps_none (n + 1) is) in
      let m = each_more Faultless n j is in
      (λ q. m.0 (h.0 q), λ q. h.1 (m.1 q))

  -- the steps before a place have no fault, and the one there has
  abbrev First : ℕ → ℕ → Step → Type 0
  First m n i = (n < m → Faultless n i) × (n ≡ m → Faultless n i → ⊥)

  steps_first : (n : ℕ) (is : List Step) (m k : Place) (x : Miss) → steps_fault p s n is ≡ Some (NotCarried m k x) → (n ≤ m.0) × Each (First m.0) n is
  steps_first n [] m k x e = absurd (let z : ◌≡◌ {A = ℕ} 0 1 = cc in omega arith)
  steps_first n (j ∷ is) m k x e = go (fault n j) refl e (steps_first (n + 1) is m k x)
    where
      go : (o : Option Fault) → fault n j ≡ o → or_else o (steps_fault p s (n + 1) is) ≡ Some (NotCarried m k x) → (steps_fault p s (n + 1) is ≡ Some (NotCarried m k x) → (n + 1 ≤ m.0) × Each (First m.0) (n + 1) is) → (n ≤ m.0) × Each (First m.0) n (j ∷ is)
      go (Some f) h q r =
          let same = step_names (words_of p j) p.vars s n j m k x (h ∙ q) in
          (omega arith, (each_more (First m.0) n j is).0 ((λ l. absurd (omega arith), λ l z. some_none f (sym h ∙ z)), λ k i e. (λ l. absurd (omega arith), λ l z. omega arith)))
      go None h q r =
          let later = (r q).0 in
          (omega arith, (each_more (First m.0) n j is).0 ((λ l. h, λ l z. omega arith), (r q).1))

pub length-zeros : (n : ℕ) → length (zeros n) ≡ n
length-zeros zero = refl
length-zeros (suc n) = ap suc (length-zeros n)

-- looking at the rows of a table
module _ (p : Prog) (t : Table) (f : Full p t) where
  abbrev rows : List ℤ
  rows = row_t p.vars t

  abbrev Good : ℕ → Step → Type 0
  Good n i = (b : Box) → at t n ≡ within b → Carried t (leads p n b i)

  missed_at : (a : At) (n : ℕ) → LongAt p.vars a → (missed a (place_in p.vars rows n) ≡ None) ↔ AtLeast a (at t n)
  missed_at a n l = subst (λ c. (missed a c ≡ None) ↔ AtLeast a (at t n)) (sym (place_is p.vars t f.full n)) (missed_none p.vars a (at t n) l (f.full n))

  way_none : (n to : ℕ) (w : Way) (i : Step) (b : Box) → length b ≡ p.vars → (way_miss (words_of p i) p.vars rows n to w i b ≡ None) ↔ AtLeast (makes (words_of p i) w i b) (at t to)
  way_none n to w i b l =
      none_mapped _ (missed (makes (words_of p i) w i b) (place_in p.vars rows to)) (missed_at (makes (words_of p i) w i b) to (subst (λ k. LongAt k (makes (words_of p i) w i b)) l (makes-length (words_of p i) w i b)))

  step_none : (n : ℕ) (i : Step) → Faultless p rows n i ↔ Good n i
  step_none n i =
      let jump : Box → Option Fault = λ b. way_miss (words_of p i) p.vars rows n (target i) Jump i b in
      let next : Box → Option Fault = λ b. way_miss (words_of p i) p.vars rows n (n + 1) Next i b in
      let each = λ (b : Box) (e : at t n ≡ within b). none_or (jump b) (next b) (way_none n (target i) Jump i b (f.full n b e)) (and_no_more (way_none n (n + 1) Next i b (f.full n b e))) in
      subst (λ a. (known a (λ b. or_else (jump b) (next b)) ≡ None) ↔ Good n i) (sym (place_is p.vars t f.full n)) (known_none (at t n) (λ b. or_else (jump b) (next b)) (λ b. Carried t (leads p n b i)) each)

  -- only the start and the steps are left to look at
  left : fault_in p rows ≡ or_else (option_map Start (missed (within (zeros p.vars)) (place_in p.vars rows 0))) (steps_fault p rows 0 p.code)
  left =
      let long : length rows ≡ wants (counts_of p) = length-row_t p.vars t f.full ∙ ap (λ m. m * width p.vars) f.long in
      let none : rows_fault p.vars 0 rows (length p.code + 1) ≡ None = subst (λ m. rows_fault p.vars 0 rows m ≡ None) f.long (rows_good p.vars 0 t rows f.full refl) in
      cond-true (eqb (length rows) (wants (counts_of p))) _ _ (eq-eqb _ _ long)
      ∙ ap (λ o. or_else o (or_else (option_map Start (missed (within (zeros p.vars)) (place_in p.vars rows 0))) (steps_fault p rows 0 p.code))) none

  looks : (fault_in p rows ≡ None) ↔ (AtLeast (within (zeros p.vars)) (at t 0) × Each (Faultless p rows) 0 p.code)
  looks =
      subst (λ o. (o ≡ None) ↔ (AtLeast (within (zeros p.vars)) (at t 0) × Each (Faultless p rows) 0 p.code)) (sym left)
      (none_or (option_map Start (missed (within (zeros p.vars)) (place_in p.vars rows 0))) (steps_fault p rows 0 p.code) (none_mapped Start _ (missed_at (within (zeros p.vars)) 0 (length-zeros p.vars))) (steps_none p rows 0 p.code))

  first : (n to : Place) (m : Miss) → fault_in p rows ≡ Some (NotCarried n to m) → Each (First p rows n.0) 0 p.code
  first n to m e = elim (or_was (option_map Start o) (steps_fault p rows 0 p.code) _ (sym left ∙ e)) [ inl h ↦ absurd (other o h) | inr h ↦ (steps_first p rows 0 p.code n to m h).1 ]
    where
      o : Option Miss
      o = missed (within (zeros p.vars)) (place_in p.vars rows 0)

      other : (o : Option Miss) → option_map Start o ≡ Some (NotCarried n to m) → ⊥
      other (Some x) h = let z : ◌≡◌ {A = ℕ} 0 1 = cc in omega arith
      other None h = let z : ◌≡◌ {A = ℕ} 0 1 = cc in omega arith

pub looking_once : LookingOnce
looking_once s l p is = (holds, λ h. none h.0 h.1 h.2)
  where
    none : (t : Table) → row_t p.vars t ≡ l → Holds p t → fault_in p l ≡ None
    none t e h =
        let f : Full p t = record { long = h.long; full = h.full } in
        subst (λ l. fault_in p l ≡ None) e ((looks p t f).1 (h.start, λ k i q. rw zero-add ((step_none p t f k i).1 (λ b. h.steps k i b q))))

    holds : fault_in p l ≡ None → (t : Table) × (row_t p.vars t ≡ l) × Holds p t
    holds e =
        let parts = (none_cond (eqb (length l) (wants (counts_of p))) _ _ (none_or (rows_fault p.vars 0 l (length p.code + 1)) _ (itself _) (itself _))).0 e in
        let long : length l ≡ 0 + (length p.code + 1) * width p.vars = eqb-true _ _ (T_true _ parts.0) ∙ sym (zero-add _) in
        let t = table_of p.vars 0 l (length p.code + 1) in
        let same : row_t p.vars t ≡ l = table_of_rows p.vars 0 l (length p.code + 1) long parts.1.0 in
        let f : Full p t = record { long = length-table_of p.vars 0 l (length p.code + 1); full = table_of_wide p.vars 0 l (length p.code + 1) long } in
        let h = (looks p t f).0 (subst (λ l. fault_in p l ≡ None) (sym same) e) in
        (t, same, record { long = f.long; start = h.0; steps = λ k i b q. (step_none p t f k i).0 (rw zero-add at (h.1 k i q)) b; full = f.full })

pub first_fault : FirstFault
first_fault s p t n to m is f e =
    let r = first p t f n to m e in (
      λ k i b l q a. (step_none p t f k i).0 ((rw zero-add at (r k i q)).0 l) b a,
      λ i b q a c. (rw zero-add at (r n.0 i q)).1 refl ((step_none p t f n.0 i).1 (λ d g. let same : b ≡ d = cc in subst (λ d. Carried t (leads p n.0 d i)) same c)),
    )
