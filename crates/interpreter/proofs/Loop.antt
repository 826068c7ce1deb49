-- What the loop over the steps of a run goes by.
use Rattle.std.proofs.Common.{◌≡◌, ℕ, ◌+◌, ◌-◌, ◌<◌, ◌≤◌, min, Bool, true, false, cond, T, List, [], ◌∷◌, ◌++◌, length, get_or, take, drop, replicate, ℤ, pos, Some, None, sym, refl, ap, ◌∙◌, subst, ap₂, ⊎_elim, arith}
use Rattle.std.specs.List.{slice_get, AllByRecursion}
use Rattle.std.proofs.lemmas.List.{length-take, length-replicate, replicate-append-replicate, take_at, drop_at}
use Rattle.std.proofs.lemmas.Option.{slice_get-get_or}
use Rattle.std.proofs.lemmas.Bool.{cases_lt}
use Rattle.number.specs.Numbers.{in64}
use Rattle.program.specs.declared.Step.{Step}
use Rattle.program.specs.declared.Step.TheVariants.{Set, Add, Sub, Mul, Load, Store, Ask, Show, Go, Less, Stop}
use Rattle.program.specs.Program.{Prog, total, counts_of}
use Rattle.program.specs.Rows.{row_i, Program}
use Rattle.program.specs.Reading.{width, first}
use Rattle.program.specs.Runs.{State, Run, on, stopped, fails, act, act_or, steps, begin, blank}
use Rattle.interval.specs.Ranges.{Box, At, never, within}
use Rattle.interval.specs.Tests.{sure}
use Rattle.table.specs.Tables.{Table, at, words_of, Holds}
use Rattle.table.specs.Licences.{sure_at, licensed, licensed_step, tested_at, tests1, tests}
use Rattle.machine.specs.declared.Cursor.{Cursor}
use Rattle.machine.specs.Layout.{split, state_of}
use Rattle.machine.specs.Marks.{mark, sure_of, offset_of, marks_from}
use Rattle.machine.specs.Acting.{passes}
use Rattle.machine.proofs.Marking.{marked, length_marks}
use Rattle.interpreter.specs.declared.ran.Ran.{Ran}
use Rattle.interpreter.specs.declared.ran.Ran.TheVariants.{Stopped, Failed}
use Rattle.interpreter.specs.Ending.{shown_by, answer_of, Ends}
use Rattle.interpreter.proofs.Runs.{steps_add, tests_add, stopped_stays, fails_stays, one_more, sure_step}

-- a run goes on after n steps: its state is in memory, and k tests were done
pub record Going (p : Prog) (t : Table) (q : List ℤ) (n : ℕ) (c : Cursor) (vs m o : List ℤ) (k : ℕ) : Type 0 where
  pub runs : steps n p (begin p q) ≡ on (state_of p.arrays c vs m q o)
  pub tests : tests n p t (begin p q) ≡ k
  pub place : c.place ≤ length p.code

-- arrays that are all 0
split-zeros : (ns : List ℕ) → split ns (replicate (total ns) (pos 0)) ≡ blank ns
split-zeros [] = refl
split-zeros (n ∷ ns) =
    let all = sym (replicate-append-replicate n (total ns) (pos 0)) in
    let long = length-replicate n (pos 0) in
    ap₂ (λ a b. a ∷ split ns b) (ap (take n) all ∙ take_at (replicate n (pos 0)) (replicate (total ns) (pos 0)) n long) (ap (drop n) all ∙ drop_at (replicate n (pos 0)) (replicate (total ns) (pos 0)) n long)
    ∙ ap (λ r. replicate n (pos 0) ∷ r) (split-zeros ns)

abbrev origin : Cursor
origin = record { place = 0; taken = 0; count = 0 }

pub starts : (p : Prog) (t : Table) (q vs m o : List ℤ) → vs ≡ replicate (length vs) (pos 0) → m ≡ replicate (length m) (pos 0) → length vs ≡ p.vars → length m ≡ total p.arrays → Going p t q 0 origin vs m o 0
starts p t q vs m o v w e f = record {
  runs = ap₂ (λ vs a. on (record { at = 0; vars = vs; arrays = a; asked = q; shown = [] })) (sym (v ∙ ap (λ n. replicate n (pos 0)) e)) (sym (ap (split p.arrays) (w ∙ ap (λ n. replicate n (pos 0)) f) ∙ split-zeros p.arrays));
  tests = refl;
  place = omega arith;
}

-- a test that doesn't pass ends the run
act-fails : (p : Prog) (s : State) (i : Step) → passes p s i ≡ false → act p s i ≡ fails s.at s
act-fails p s i e = go i e
  where
    failed : (u : Bool) (r : Run) → u ≡ false → cond u r (fails s.at s) ≡ fails s.at s
    failed true r e = absurd (let z : ◌≡◌ {A = ℕ} 0 1 = cc in omega arith)
    failed false r e = refl

    none : {A : Type 0} → true ≡ false → A
    none e = absurd (let z : ◌≡◌ {A = ℕ} 0 1 = cc in omega arith)

    go : (i : Step) → passes p s i ≡ false → act p s i ≡ fails s.at s
    go (Set x e) h = none h
    go (Add x e f) h = failed _ _ h
    go (Sub x e f) h = failed _ _ h
    go (Mul x c e) h = failed _ _ h
    go (Load x a e) h = failed _ _ h
    go (Store a e f) h = failed _ _ h
    go (Ask x) h = none h
    go (Show e) h = none h
    go (Go t) h = none h
    go (Less e f t) h = none h
    go Stop h = none h

-- the tests of a step are one, unless it is licensed; one that has none is
counts : (p : Prog) (t : Table) (n : ℕ) (i : Step) → slice_get p.code n ≡ Some i → ◌≡◌ {A = ℕ} (cond (licensed p t n) 0 (cond (tested_at (slice_get p.code n)) 1 0)) (cond (licensed p t n) 0 1)
counts p t n i e = ap (λ o. cond (licensed_step p t n o) 0 (cond (tested_at o) 1 0)) e ∙ go i ∙ sym (ap (λ o. cond (licensed_step p t n o) 0 1) e)
  where
    free : (u : Bool) → u ≡ true → ◌≡◌ {A = ℕ} (cond u 0 0) (cond u 0 1)
    free true h = refl
    free false h = absurd (let z : ◌≡◌ {A = ℕ} 0 1 = cc in omega arith)

    known : (i : Step) (a : At) → ((b : Box) → sure (words_of p i) b i ≡ true) → sure_at (words_of p i) a i ≡ true
    known i never h = refl
    known i (within b) h = h b

    go : (i : Step) → ◌≡◌ {A = ℕ} (cond (licensed_step p t n (Some i)) 0 (cond (tested_at (Some i)) 1 0)) (cond (licensed_step p t n (Some i)) 0 1)
    go (Set x e) = free _ (known (Set x e) (at t n) (λ b. refl))
    go (Add x e f) = refl
    go (Sub x e f) = refl
    go (Mul x c e) = refl
    go (Load x a e) = refl
    go (Store a e f) = refl
    go (Ask x) = free _ (known (Ask x) (at t n) (λ b. refl))
    go (Show e) = free _ (known (Show e) (at t n) (λ b. refl))
    go (Go m) = free _ (known (Go m) (at t n) (λ b. refl))
    go (Less e f m) = free _ (known (Less e f m) (at t n) (λ b. refl))
    go Stop = free _ (known Stop (at t n) (λ b. refl))

-- how a run came out, from the state that is in memory
module _ (p : Prog) (t : Table) (q : List ℤ) (N : ℕ) (O o : List ℤ) (count k : ℕ) where
  pub ends : (r : Run) (a : Ran) → steps N p (begin p q) ≡ r → tests N p t (begin p q) ≡ k → shown_by r ≡ take count o → count ≤ length o → drop count o ≡ drop count O → (length (shown_by r) ≡ count → a ≡ answer_of r k) → Ends p t q N O o a
  ends r a e f sh l d h =
      let long : length (shown_by r) ≡ count = ap length sh ∙ length-take count o ∙ (let few : min count (length o) ≡ count = omega arith in few) in
      record {
        answer = h long ∙ ap₂ answer_of (sym e) (sym f);
        shown = subst (λ r. take (length (shown_by r)) o ≡ shown_by r) (sym e) (ap (λ n. take n o) long ∙ sym sh);
        rest = subst (λ r. drop (length (shown_by r)) o ≡ drop (length (shown_by r)) O) (sym e) (ap (λ n. drop n o) long ∙ d ∙ ap (λ n. drop n O) (sym long));
      }

  -- a run that ended before is the same after N steps
  stayed : (n : ℕ) (r : Run) → n ≤ N → ((m : ℕ) → (steps m p r ≡ r) × (tests m p t r ≡ 0)) → steps n p (begin p q) ≡ r → tests n p t (begin p q) ≡ k → (steps N p (begin p q) ≡ r) × (tests N p t (begin p q) ≡ k)
  stayed n r l stays e f =
      let more : N ≡ n + (N - n) = omega arith in
      let later = stays (N - n) in (
        ap (λ j. steps j p (begin p q)) more ∙ steps_add n (N - n) p (begin p q) ∙ ap (steps (N - n) p) e ∙ later.0,
        ap (λ j. tests j p t (begin p q)) more ∙ tests_add n (N - n) p t (begin p q) ∙ ap₂ (λ a b. a + tests (N - n) p t b) f e ∙ ap (λ j. k + j) later.1 ∙ (let none : k + 0 ≡ k = omega arith in none),
      )

  pub stops : (n : ℕ) (x : State) → n ≤ N → steps n p (begin p q) ≡ stopped x → tests n p t (begin p q) ≡ k → x.shown ≡ take count o → count ≤ length o → drop count o ≡ drop count O → Ends p t q N O o (Stopped count k)
  stops n x l e f sh m d =
      let u = stayed n (stopped x) l (λ m. stopped_stays m p t x) e f in
      ends (stopped x) (Stopped count k) u.0 u.1 sh m d (λ long. ap (λ n. Stopped n k) (sym long))

  pub failed : (n a : ℕ) (x : State) → n ≤ N → steps n p (begin p q) ≡ fails a x → tests n p t (begin p q) ≡ k → x.shown ≡ take count o → count ≤ length o → drop count o ≡ drop count O → Ends p t q N O o (Failed a count k)
  failed n a x l e f sh m d =
      let u = stayed n (fails a x) l (λ m. fails_stays m p t a x) e f in
      ends (fails a x) (Failed a count k) u.0 u.1 sh m d (λ long. ap (λ n. Failed a n k) (sym long))

module _ (s q : List ℤ) (p : Prog) (t : Table) (is : Program s p) (holds : Holds p t) (fit : AllByRecursion (λ z. T (in64 z)) q) (n : ℕ) (c : Cursor) (vs m o : List ℤ) (k : ℕ) (g : Going p t q n c vs m o k) (i : Step) (here : slice_get p.code c.place ≡ Some i) where
  abbrev now : State
  now = state_of p.arrays c vs m q o

  pub sure-passes : licensed p t c.place ≡ true → passes p now i ≡ true
  sure-passes sure = go (passes p now i) refl
    where
      go : (u : Bool) → passes p now i ≡ u → u ≡ true
      go true e = refl
      go false e = absurd (sure_step s p t q n now now i is holds fit g.runs here sure (act-fails p now i e))

  -- one step more; k' counts its test, unless it is sure
  pub went : (r : Run) (sure : Bool) (k' : ℕ) → act p now i ≡ r → sure ≡ licensed p t c.place → k' ≡ k + cond sure 0 1 → (steps (n + 1) p (begin p q) ≡ r) × (tests (n + 1) p t (begin p q) ≡ k')
  went r sure k' e same count =
      let u = one_more n p t (begin p q) now g.runs in (
        u.0 ∙ ap (act_or p now) here ∙ e,
        u.1 ∙ ap (λ j. j + tests1 p t (on now)) g.tests ∙ ap (λ j. k + j) (counts p t c.place i here) ∙ ap (λ b. k + cond b 0 1) (sym same) ∙ sym count,
      )

pub at_most_one : (b : Bool) → cond b 0 1 ≤ 1
at_most_one true = omega arith
at_most_one false = omega arith

-- behind the last step a run stops
pub behind : (q : List ℤ) (p : Prog) (t : Table) (n : ℕ) (c : Cursor) (vs m o : List ℤ) (k : ℕ) → Going p t q n c vs m o k → slice_get p.code c.place ≡ None → (steps (n + 1) p (begin p q) ≡ stopped (state_of p.arrays c vs m q o)) × (tests (n + 1) p t (begin p q) ≡ k)
behind q p t n c vs m o k g e =
    let now = state_of p.arrays c vs m q o in
    let u = one_more n p t (begin p q) now g.runs in
    (u.0 ∙ ap (act_or p now) e, u.1 ∙ ap₂ (λ j o. j + cond (licensed_step p t c.place o) 0 (cond (tested_at o) 1 0)) g.tests e ∙ (let none : k + 0 ≡ k = omega arith in none))

-- what a mark says
sure-mark : (b : Bool) (at : ℕ) → (sure_of (mark b at) ≡ b) × (offset_of (mark b at) ≡ at)
sure-mark true at = (refl, refl)
sure-mark false at = (refl, refl)

-- the step at the place of a run, which has the mark z
module _ (s marks : List ℤ) (p : Prog) (t : Table) (is : Program s p) (e : marks ≡ marks_from p t 0 (first (counts_of p)) p.code) (n : ℕ) (l : n ≤ length p.code) (other : n ≡ length marks → ⊥) where
  pub within_marks : n < length marks
  within_marks =
      let long : length marks ≡ length p.code = ap length e ∙ length_marks p t 0 (first (counts_of p)) p.code in
      ⊎_elim (λ x. x) (λ h. absurd (other (let same : n ≡ length marks = omega arith in same))) (cases_lt n (length marks))

  module _ (z : ℤ) (e' : z ≡ get_or marks n (pos 0)) (at : ℕ) (o : at ≡ offset_of z) where
    step_at_lem : (i : Step) × (slice_get p.code n ≡ Some i) × (sure_of z ≡ licensed p t n) × (drop at s ≡ row_i i ++ drop (at + width i) s)
    step_at_lem =
        let long : length marks ≡ length p.code = ap length e ∙ length_marks p t 0 (first (counts_of p)) p.code in
        let i = get_or p.code n Stop in
        let there = within_marks in
        let here = slice_get-get_or p.code n Stop (omega (arith, there, long)) in
        let m = marked s p t n i is here in
        let same : z ≡ mark (licensed p t n) m.0 = e' ∙ ap (λ l. get_or l n (pos 0)) e ∙ m.1 in
        let says = sure-mark (licensed p t n) m.0 in
        (i, here, ap sure_of same ∙ says.0, subst (λ o. drop o s ≡ row_i i ++ drop (o + width i) s) (sym (o ∙ ap offset_of same ∙ says.1)) m.2)

    pub begins : (i : Step) × (rest : List ℤ) × (drop at s ≡ row_i i ++ rest)
    begins = let u = step_at_lem in (u.0, drop (at + width u.0) s, u.3)

    pub fetched : (i : Step) → ((j : Step) (rest : List ℤ) → drop at s ≡ row_i j ++ rest → i ≡ j) → (sure : Bool) → sure ≡ sure_of z → (slice_get p.code n ≡ Some i) × (sure ≡ licensed p t n)
    fetched i f sure h =
        let u = step_at_lem in
        (u.1 ∙ ap Some (sym (f u.0 (drop (at + width u.0) s) u.3)), h ∙ u.2)
