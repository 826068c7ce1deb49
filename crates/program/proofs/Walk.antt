-- The steps that are left of a program, as its iterator has them.
use Rattle.std.proofs.Common.{◌≡◌, ℕ, zero, suc, ◌+◌, ◌-◌, ◌*◌, ◌<◌, ◌≤◌, true, List, [], ◌∷◌, length, drop, ℤ, is_ok, Some, Ok, Err, Result, sym, refl, ap, ◌∙◌, arith}
use Rattle.std.specs.List.{slice_get}
use Rattle.std.proofs.lemmas.List.{length-drop}
use Rattle.std.proofs.lemmas.Bool.{false≢true}
use Rattle.program.specs.declared.step.Place.{Place}
use Rattle.program.specs.declared.step.Step.{Step}
use Rattle.program.specs.declared.reader.Counts.{Counts}
use Rattle.program.specs.declared.refusal.Refusal.{Refusal}
use Rattle.program.specs.Program.{Prog, Ahead, counts_of}
use Rattle.program.specs.Rows.{row_p, IsProgram}
use Rattle.program.specs.Reading.{next_at, steps_at, steps_from, first, widths, GivesStep}
use Rattle.program.proofs.Whole.{few_steps, few_arrays}
use Rattle.program.proofs.Loops.{width_few, steps_left, steps_stop}

-- reading the next of them from the rows
module _ (s : List ℤ) (c : Counts) (at k : ℕ) (l : k < c.steps) (all : is_ok (steps_at c s at (c.steps - k)) ≡ true) where
  more : c.steps - k ≡ suc (c.steps - (k + 1))
  more = omega arith

  pub read_never : (f : Refusal) → Err f ≡ next_at c s at → ⊥
  read_never f h = false≢true (ap is_ok (sym (steps_stop c s at _ _ more f h)) ∙ all)

  pub read_step : (i : Step) (next : ℕ) → ◌≡◌ {A = Result (Step × ℕ) Refusal} (Ok (i, next)) (next_at c s at) → (is_ok (steps_at c s next (c.steps - (k + 1))) ≡ true) × (steps_from c s at (c.steps - k) ≡ i ∷ steps_from c s next (c.steps - (k + 1)))
  read_step i next h =
      let w = steps_left c s at _ _ more i next h all in
      (w.2, w.3)

-- the steps ahead are the program's from that place on
abbrev pub AheadOf : Prog → Ahead → Type 0
AheadOf p a = (a.place ≤ length p.code) × (a.steps ≡ drop a.place p.code)

pub drop_nth : {X : Type 0} (xs : List X) (k : ℕ) (x : X) (ys : List X) → drop k xs ≡ x ∷ ys → (slice_get xs k ≡ Some x) × (drop (k + 1) xs ≡ ys)
drop_nth xs k x ys e =
    let u = go xs k x ys e in
    let next : k + 1 ≡ suc k = omega arith in
    (u.0, ap (λ m. drop m xs) next ∙ u.1)
  where
    go : {X : Type 0} (xs : List X) (k : ℕ) (x : X) (ys : List X) → drop k xs ≡ x ∷ ys → (slice_get xs k ≡ Some x) × (drop (suc k) xs ≡ ys)
    go [] zero x ys e = absurd (let z : ◌≡◌ {A = ℕ} 0 1 = cc in omega arith)
    go [] (suc k) x ys e = absurd (let z : ◌≡◌ {A = ℕ} 0 1 = cc in omega arith)
    go (z ∷ xs) zero x ys e = (ap Some cc, cc)
    go (z ∷ xs) (suc k) x ys e = go xs k x ys e

pub ahead_all : (p : Prog) (a : Ahead) → a ≡ record { place = 0; steps = p.code } → AheadOf p a
ahead_all p a e = rw e (omega arith, refl)

-- behind the last of them
pub ahead_none : (p : Prog) (a : Ahead) → AheadOf p a → a.steps ≡ [] → a.place ≡ length p.code
ahead_none p a w e =
    let none = ap length (sym w.1 ∙ e) in
    let left = length-drop a.place p.code in
    omega (arith, none, left, w.0)

-- what is known of the next of them, and that those behind it are ahead then
pub record Turn (p : Prog) (a b : Ahead) (x : Place × Step) : Type 0 where
  pub here : slice_get p.code x.0.0 ≡ Some x.1
  pub there : x.0.0 < length p.code
  pub split : drop x.0.0 p.code ≡ x.1 ∷ drop (x.0.0 + 1) p.code
  pub ahead : AheadOf p b

pub turn : (p : Prog) (a b : Ahead) (x : Place × Step) → AheadOf p a → GivesStep a (Some x) b → Turn p a b x
turn p a b x w g =
    let k = x.0.0 in
    let e : drop k p.code ≡ x.1 ∷ b.steps = ap (λ k. drop k p.code) g.1 ∙ sym w.1 ∙ g.0 in
    let u = drop_nth p.code k x.1 b.steps e in
    let next : drop b.place p.code ≡ b.steps = ap (λ m. drop m p.code) (g.2 ∙ ap (λ m. m + 1) (sym g.1)) ∙ u.1 in
    let long = ap length e in
    let left = length-drop k p.code in
    record { here = u.0; there = omega (arith, long, left); split = e ∙ ap (λ r. x.1 ∷ r) (sym u.1); ahead = (omega (arith, long, left, g.1, g.2), sym next) }

-- where the steps end
widths_few : (is : List Step) → widths is ≤ 6 * length is
widths_few [] = omega arith
widths_few (i ∷ is) =
    let one = width_few i in
    let rest = widths_few is in
    omega (arith, one, rest)

pub ends_few : (p : Prog) → IsProgram p → first (counts_of p) + widths p.code ≤ 24595
ends_few p is =
    let steps = few_steps (row_p p) p is in
    let arrays = few_arrays (row_p p) p is in
    let wide = widths_few p.code in
    omega (arith, steps, arrays, wide)
