-- What the loops over the rows go by.
use Rattle.std.proofs.Common.{◌≡◌, ℕ, suc, ◌+◌, ◌-◌, ◌≤◌, min, true, List, [], ◌∷◌, length, take, drop, ℤ, is_ok, Ok, Err, Result, sym, refl, ap, ◌∙◌, subst, ap₂, ⊎_elim, add_assoc, arith}
use Rattle.std.proofs.lemmas.List.{take_rest, drop_all, length-append, length-drop}
use Rattle.std.specs.Result.{result_unwrap_or}
use Rattle.std.proofs.lemmas.Bool.{cases_lt, false≢true}
use Rattle.program.specs.declared.step.Step.{Step}
use Rattle.program.specs.declared.step.Step.TheVariants.{Set, Add, Sub, Mul, Load, Store, Ask, Show, Go, Less, Stop}
use Rattle.program.specs.declared.reader.Counts.{Counts}
use Rattle.program.specs.declared.refusal.Field.TheVariants.{Variables, Arrays, Length, Steps}
use Rattle.program.specs.declared.refusal.Refusal.{Refusal}
use Rattle.program.specs.Program.{total}
use Rattle.program.specs.Rows.{row_i}
use Rattle.program.specs.Reading.{and_then, refused, index_in, step_in, width, widths, moved, step_at, next_at, steps_at, lengths_at, Head, head_in, head_counts}
use Rattle.program.proofs.Results.{ok_same, err_not_ok, then_by, then_was}
use Rattle.program.proofs.Whole.{step_at_was, length-row_i, lengths_at_was}
use Rattle.program.proofs.Within.{Within, step_within}

pub width_some : (i : Step) → 1 ≤ width i
width_some (Set x e) = omega arith
width_some (Add x a b) = omega arith
width_some (Sub x a b) = omega arith
width_some (Mul x z e) = omega arith
width_some (Load x a e) = omega arith
width_some (Store a e f) = omega arith
width_some (Ask x) = omega arith
width_some (Show e) = omega arith
width_some (Go t) = omega arith
width_some (Less a b t) = omega arith
width_some Stop = omega arith

pub width_few : (i : Step) → width i ≤ 6
width_few (Set x e) = omega arith
width_few (Add x a b) = omega arith
width_few (Sub x a b) = omega arith
width_few (Mul x z e) = omega arith
width_few (Load x a e) = omega arith
width_few (Store a e f) = omega arith
width_few (Ask x) = omega arith
width_few (Show e) = omega arith
width_few (Go t) = omega arith
width_few (Less a b t) = omega arith
width_few Stop = omega arith

-- a step's row lies within the rows
pub step_at_ends : (c : Counts) (s : List ℤ) (at : ℕ) (i : Step) → step_at c s at ≡ Ok i → at + width i ≤ length s
step_at_ends c s at i e =
    let w = ap length (step_at_was c s at i e).0 in
    let a = length-append (row_i i) (drop (at + width i) s) in
    let b = length-row_i i in
    let d = length-drop at s in
    let o = width_some i in
    omega arith

-- the rest of the rows, as the code takes it
module _ (s : List ℤ) (at start : ℕ) (is : start ≡ min at (length s)) where
  pub rest : take (length s - start) (drop start s) ≡ drop at s
  rest = take_rest s start ∙ ⊎_elim (λ l. ap (λ n. drop n s) (omega arith)) (λ l. drop_all start s (omega arith) ∙ sym (drop_all at s (omega arith))) (cases_lt at (length s))

  pub step_found : (c : Counts) (i : Step) → Ok i ≡ step_in c (take (length s - start) (drop start s)) → step_at c s at ≡ Ok i
  step_found c i e = ap (moved (min at (length s))) (sym (e ∙ ap (step_in c) rest))

  pub step-refused : (c : Counts) (f : Refusal) → Err f ≡ step_in c (take (length s - start) (drop start s)) → (step_at c s at ≡ refused (start + f.at) f.reason) × (start + f.at ≤ length s)
  step-refused c f e =
      let q : step_in c (drop at s) ≡ Err f = sym (e ∙ ap (step_in c) rest) in
      let w : f.at ≤ length (drop at s) = subst (Within (length (drop at s))) q (step_within c (drop at s)) in
      let d = length-drop at s in
      (ap (moved (min at (length s))) q ∙ ap (λ n. refused (n + f.at) f.reason) (sym is), omega arith)

-- one more length, or a refusal
module _ (s : List ℤ) (at n m sum : ℕ) (more : n ≡ suc m) where
  pub lengths_more : (k : ℕ) → Ok k ≡ index_in s at Length → and_then (lengths_at s at n) (λ ns. Ok (sum + total ns)) ≡ and_then (lengths_at s (at + 1) m) (λ ns. Ok (sum + k + total ns))
  lengths_more k e = ap (λ j. and_then (lengths_at s at j) (λ ns. Ok (sum + total ns))) more ∙ ap (λ r. and_then (and_then r (λ k. and_then (lengths_at s (at + 1) m) (λ ks. Ok (k ∷ ks)))) (λ ns. Ok (sum + total ns))) (sym e) ∙ go (lengths_at s (at + 1) m)
    where
      go : (r : Result (List ℕ) Refusal) → and_then (and_then r (λ ks. Ok (k ∷ ks))) (λ ns. Ok (sum + total ns)) ≡ and_then r (λ ns. Ok (sum + k + total ns))
      go (Ok ns) = ap Ok (sym (add_assoc sum k (total ns)))
      go (Err f) = refl

  pub lengths_refused : (f : Refusal) → Err f ≡ index_in s at Length → and_then (lengths_at s at n) (λ ns. Ok (sum + total ns)) ≡ Err f
  lengths_refused f e = ap (λ j. and_then (lengths_at s at j) (λ ns. Ok (sum + total ns))) more ∙ ap (λ r. and_then (and_then r (λ k. and_then (lengths_at s (at + 1) m) (λ ks. Ok (k ∷ ks)))) (λ ns. Ok (sum + total ns))) (sym e)

-- what is left of the lengths behind the first of them, where each is one
module _ (s : List ℤ) (at n m : ℕ) (more : n ≡ suc m) (all : is_ok (lengths_at s at n) ≡ true) where
  all_more : is_ok (lengths_at s at (suc m)) ≡ true
  all_more = ap (λ j. is_ok (lengths_at s at j)) (sym more) ∙ all

  pub lengths_left : (k : ℕ) → Ok k ≡ index_in s at Length → (is_ok (lengths_at s (at + 1) m) ≡ true) × (result_unwrap_or (lengths_at s at n) [] ≡ k ∷ result_unwrap_or (lengths_at s (at + 1) m) [])
  lengths_left k e =
      let unroll : lengths_at s at (suc m) ≡ and_then (lengths_at s (at + 1) m) (λ ks. Ok (k ∷ ks)) = ap (λ r. and_then r (λ k. and_then (lengths_at s (at + 1) m) (λ ks. Ok (k ∷ ks)))) (sym e) in
      let w = go (lengths_at s (at + 1) m) (ap is_ok (sym unroll) ∙ all_more) in
      (w.0, ap (λ j. result_unwrap_or (lengths_at s at j) []) more ∙ ap (λ r. result_unwrap_or r []) unroll ∙ w.1)
    where
      go : (r : Result (List ℕ) Refusal) → is_ok (and_then r (λ ks. Ok (k ∷ ks))) ≡ true → (is_ok r ≡ true) × (result_unwrap_or (and_then r (λ ks. Ok (k ∷ ks))) [] ≡ k ∷ result_unwrap_or r [])
      go (Ok ks) q = (refl, refl)
      go (Err f) q = absurd (false≢true q)

  pub lengths_here : (f : Refusal) → Err f ≡ index_in s at Length → ⊥
  lengths_here f e = false≢true (ap (λ r. is_ok (and_then r (λ k. and_then (lengths_at s (at + 1) m) (λ ks. Ok (k ∷ ks))))) e ∙ all_more)

-- what stands before the steps, from its parts
pub header_is : (s : List ℤ) (vars n words steps : ℕ) → Ok vars ≡ index_in s 0 Variables → Ok n ≡ index_in s 1 Arrays → Ok words ≡ and_then (lengths_at s 2 n) (λ ns. Ok (total ns)) → Ok steps ≡ index_in s (2 + n) Steps → Ok (record { vars = vars; arrays = n; words = words; steps = steps }) ≡ and_then (head_in s) (λ h. Ok (head_counts h))
header_is s vars n words steps a b d e =
    let w = then_was (lengths_at s 2 n) (λ ns. Ok (total ns)) words (sym d) in
    let ns = w.0 in
    let h : Head = record { vars = vars; arrays = ns; steps = steps } in
    let long : length ns ≡ n = (lengths_at_was n s 2 ns w.1).0 in
    let read : head_in s ≡ Ok h = then_by (index_in s 0 Variables) _ vars _ (sym a) (then_by (index_in s 1 Arrays) _ n _ (sym b) (then_by (lengths_at s 2 n) _ ns _ w.1 (then_by (index_in s (2 + n) Steps) _ steps _ (sym e) refl))) in
    ap₂ (λ n words. Ok (record { vars = vars; arrays = n; words = words; steps = steps })) (sym long) (sym (ok_same _ _ w.2)) ∙ sym (ap (λ r. and_then r (λ h. Ok (head_counts h))) read)

-- one more step, or a refusal
module _ (c : Counts) (s : List ℤ) (at : ℕ) where
  pub next_is : (i : Step) (next : ℕ) → ◌≡◌ {A = Result (Step × ℕ) Refusal} (Ok (i, next)) (next_at c s at) → (step_at c s at ≡ Ok i) × (at + width i ≡ next)
  next_is i next e =
      let u = then_was (step_at c s at) (λ i. Ok (i, at + width i)) (i, next) (sym e) in
      let here = ok_same {E = Refusal} (u.0, at + width u.0) (i, next) u.2 in
      (u.1 ∙ ap (λ q. Ok q.0) here, ap (λ q. at + width q.0) (sym here) ∙ ap (λ q. q.1) here)

  none_next : (f : Refusal) → Err f ≡ next_at c s at → step_at c s at ≡ Err f
  none_next f e = go (step_at c s at) e
    where
      go : (r : Result Step Refusal) → ◌≡◌ {A = Result (Step × ℕ) Refusal} (Err f) (and_then r (λ i. Ok (i, at + width i))) → r ≡ Err f
      go (Ok i) q = absurd (err_not_ok f (i, at + width i) q)
      go (Err g) q = ap Err (let w : g ≡ f = cc in w)

  module _ (n m : ℕ) (more : n ≡ suc m) where
    unroll : steps_at c s at n ≡ and_then (step_at c s at) (λ i. and_then (steps_at c s (at + width i) m) (λ is. Ok (i ∷ is)))
    unroll = ap (steps_at c s at) more

    pub steps_stop : (f : Refusal) → Err f ≡ next_at c s at → steps_at c s at n ≡ Err f
    steps_stop f e = unroll ∙ ap (λ r. and_then r (λ i. and_then (steps_at c s (at + width i) m) (λ is. Ok (i ∷ is)))) (none_next f e)

    pub steps_go : (i : Step) (next : ℕ) → ◌≡◌ {A = Result (Step × ℕ) Refusal} (Ok (i, next)) (next_at c s at) → steps_at c s at n ≡ and_then (steps_at c s next m) (λ is. Ok (i ∷ is))
    steps_go i next e =
        let u = next_is i next e in
        unroll
        ∙ ap (λ r. and_then r (λ i. and_then (steps_at c s (at + width i) m) (λ is. Ok (i ∷ is)))) u.0
        ∙ ap (λ a. and_then (steps_at c s a m) (λ is. Ok (i ∷ is))) u.1

    -- where they end
    pub ends_go : (i : Step) (next : ℕ) → ◌≡◌ {A = Result (Step × ℕ) Refusal} (Ok (i, next)) (next_at c s at) → and_then (steps_at c s at n) (λ is. Ok (at + widths is)) ≡ and_then (steps_at c s next m) (λ is. Ok (next + widths is))
    ends_go i next e = ap (λ r. and_then r (λ is. Ok (at + widths is))) (steps_go i next e) ∙ go (steps_at c s next m)
      where
        go : (r : Result (List Step) Refusal) → and_then (and_then r (λ is. Ok (i ∷ is))) (λ is. Ok (at + widths is)) ≡ and_then r (λ is. Ok (next + widths is))
        go (Ok is) = ap Ok (sym (add_assoc at (width i) (widths is)) ∙ ap (λ a. a + widths is) (next_is i next e).1)
        go (Err f) = refl

    -- what is left behind the first of them
    pub steps_left : (i : Step) (next : ℕ) → ◌≡◌ {A = Result (Step × ℕ) Refusal} (Ok (i, next)) (next_at c s at) → is_ok (steps_at c s at n) ≡ true → (next ≤ length s) × (at + width i ≡ next) × (is_ok (steps_at c s next m) ≡ true) × (result_unwrap_or (steps_at c s at n) [] ≡ i ∷ result_unwrap_or (steps_at c s next m) [])
    steps_left i next e h =
        let u = next_is i next e in
        let ends = step_at_ends c s at i u.0 in
        let w = go (steps_at c s next m) (ap is_ok (sym (steps_go i next e)) ∙ h) in
        (omega (arith, u.1), u.1, w.0, ap (λ r. result_unwrap_or r []) (steps_go i next e) ∙ w.1)
      where
        go : (r : Result (List Step) Refusal) → is_ok (and_then r (λ is. Ok (i ∷ is))) ≡ true → (is_ok r ≡ true) × (result_unwrap_or (and_then r (λ is. Ok (i ∷ is))) [] ≡ i ∷ result_unwrap_or r [])
        go (Ok is) q = (refl, refl)
        go (Err f) q = absurd (false≢true q)
