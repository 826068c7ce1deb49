-- Runs of many steps.
use Rattle.std.proofs.Common.{◌≡◌, ℕ, zero, suc, ◌+◌, ◌-◌, ◌≤◌, Bool, true, false, cond, T, List, [], ◌∷◌, length, ℤ, Some, None, Option, sym, refl, ap, ◌∙◌, subst, add_assoc, zero-add, arith, length-append}
use Rattle.std.specs.List.{slice_get, AllByRecursion}
use Rattle.std.proofs.lemmas.Bool.{false≢true}
use Rattle.number.specs.Numbers.{in64, less_z}
use Rattle.program.specs.declared.Step.{Step}
use Rattle.program.specs.declared.Step.TheVariants.{Set, Add, Sub, Mul, Load, Store, Ask, Show, Go, Less, Stop}
use Rattle.program.specs.Program.{Prog}
use Rattle.program.specs.Rows.{Program}
use Rattle.program.specs.Runs.{State, Run, on, stopped, fails, value, to, act, act_or, step, steps, begin}
use Rattle.table.specs.Tables.{Table, Holds}
use Rattle.table.specs.Licences.{licensed, tests1, tests}
use Rattle.table.proofs.Truth.{never_fails}
use Rattle.interpreter.specs.Ending.{shown_by}

-- some steps and then some more
pub steps_add : (a b : ℕ) (p : Prog) (r : Run) → steps (a + b) p r ≡ steps b p (steps a p r)
steps_add zero b p r = ap (λ n. steps n p r) (zero-add b)
steps_add (suc a) b p r =
    let more : suc a + b ≡ suc (a + b) = omega arith in
    ap (λ n. steps n p r) more ∙ steps_add a b p (step p r)

pub tests_add : (a b : ℕ) (p : Prog) (t : Table) (r : Run) → tests (a + b) p t r ≡ tests a p t r + tests b p t (steps a p r)
tests_add zero b p t r = ap (λ n. tests n p t r) (zero-add b) ∙ sym (zero-add _)
tests_add (suc a) b p t r =
    let more : suc a + b ≡ suc (a + b) = omega arith in
    ap (λ n. tests n p t r) more
    ∙ ap (λ n. tests1 p t r + n) (tests_add a b p t (step p r))
    ∙ sym (add_assoc (tests1 p t r) (tests a p t (step p r)) (tests b p t (steps a p (step p r))))

-- a run that has ended stays so
pub stopped_stays : (n : ℕ) (p : Prog) (t : Table) (x : State) → (steps n p (stopped x) ≡ stopped x) × (tests n p t (stopped x) ≡ 0)
stopped_stays zero p t x = (refl, refl)
stopped_stays (suc n) p t x = let h = stopped_stays n p t x in (h.0, zero-add _ ∙ h.1)

pub fails_stays : (n : ℕ) (p : Prog) (t : Table) (a : ℕ) (x : State) → (steps n p (fails a x) ≡ fails a x) × (tests n p t (fails a x) ≡ 0)
fails_stays zero p t a x = (refl, refl)
fails_stays (suc n) p t a x = let h = fails_stays n p t a x in (h.0, zero-add _ ∙ h.1)

-- one step more
pub one_more : (n : ℕ) (p : Prog) (t : Table) (r : Run) (x : State) → steps n p r ≡ on x → (steps (n + 1) p r ≡ step p (on x)) × (tests (n + 1) p t r ≡ tests n p t r + tests1 p t (on x))
one_more n p t r x e = (
  steps_add n 1 p r ∙ ap (λ q. steps 1 p q) e,
  tests_add n 1 p t r ∙ ap (λ q. tests n p t r + tests 1 p t q) e ∙ ap (λ m. tests n p t r + m) (last (tests1 p t (on x))),
)
  where
    last : (m : ℕ) → m + 0 ≡ m
    last m = omega arith

-- no step takes back what was shown
act_shows : (p : Prog) (s : State) (i : Step) → length s.shown ≤ length (shown_by (act p s i))
act_shows p s i = go i
  where
    passed : (u : Bool) (x : State) → x.shown ≡ s.shown → length s.shown ≤ length (shown_by (cond u (on x) (fails s.at s)))
    passed true x e = let l = ap length e in omega arith
    passed false x e = omega arith

    goes : (u : Bool) (t : ℕ) → length s.shown ≤ length (shown_by (on (cond u (to s t) (to s (s.at + 1)))))
    goes true t = omega arith
    goes false t = omega arith

    go : (i : Step) → length s.shown ≤ length (shown_by (act p s i))
    go (Set x e) = omega arith
    go (Add x e f) = passed _ _ refl
    go (Sub x e f) = passed _ _ refl
    go (Mul x c e) = passed _ _ refl
    go (Load x a e) = passed _ _ refl
    go (Store a e f) = passed _ _ refl
    go (Ask x) = omega arith
    go (Show e) = let l = length-append s.shown (value s.vars e ∷ []) in omega (arith, l)
    go (Go t) = omega arith
    go (Less e f t) = goes (less_z (value s.vars e) (value s.vars f)) t.0
    go Stop = omega arith

step_shows : (p : Prog) (r : Run) → length (shown_by r) ≤ length (shown_by (step p r))
step_shows p (on s) = go (slice_get p.code s.at)
  where
    go : (o : Option Step) → length s.shown ≤ length (shown_by (act_or p s o))
    go None = omega arith
    go (Some i) = act_shows p s i
step_shows p (stopped s) = omega arith
step_shows p (fails a s) = omega arith

pub steps_show : (n : ℕ) (p : Prog) (r : Run) → length (shown_by r) ≤ length (shown_by (steps n p r))
steps_show zero p r = omega arith
steps_show (suc n) p r = let a = step_shows p r in let b = steps_show n p (step p r) in omega arith

pub shown_stays : (m n : ℕ) (p : Prog) (r : Run) → m ≤ n → length (shown_by (steps m p r)) ≤ length (shown_by (steps n p r))
shown_stays m n p r l =
    let more : n ≡ m + (n - m) = omega arith in
    subst (λ k. length (shown_by (steps m p r)) ≤ length (shown_by k)) (sym (ap (λ k. steps k p r) more ∙ steps_add m (n - m) p r)) (steps_show (n - m) p (steps m p r))

-- a licensed step that a run comes to doesn't fail
pub sure_step : (s : List ℤ) (p : Prog) (t : Table) (q : List ℤ) (n : ℕ) (x y : State) (i : Step) → Program s p → Holds p t → AllByRecursion (λ z. T (in64 z)) q → steps n p (begin p q) ≡ on x → slice_get p.code x.at ≡ Some i → licensed p t x.at ≡ true → act p x i ≡ fails x.at y → ⊥
sure_step s p t q n x y i is holds h e here sure f =
    let fail : steps (n + 1) p (begin p q) ≡ fails x.at y = (one_more n p t (begin p q) x e).0 ∙ ap (act_or p x) here ∙ f in
    false≢true (sym (never_fails s p t q (n + 1) x.at y is holds h fail) ∙ sure)
