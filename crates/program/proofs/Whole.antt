-- Whole programs: their rows are read as that program, and what is read as a program was its rows.
use Rattle.std.proofs.Common.{◌≡◌, ℕ, zero, suc, ◌+◌, ◌-◌, ◌*◌, ◌≤◌, min, ◌&&◌, T, eqb, leb, List, [], ◌∷◌, ◌++◌, length, take, drop, ℤ, pos, Some, Ok, Err, Result, sym, refl, ap, ◌∙◌, subst, add-zero, add_assoc, arith}
use Rattle.std.specs.List.{slice_get}
use Rattle.std.proofs.lemmas.List.{take_at, append_assoc, length-append, append-nil, drop_all, drop-drop, drop_at}
use Rattle.std.proofs.lemmas.Bool.{leb-true, eqb-true, eq-eqb}
use Rattle.program.specs.declared.step.Step.{Step}
use Rattle.program.specs.declared.step.Step.TheVariants.{Set, Add, Sub, Mul, Load, Store, Ask, Show, Go, Less, Stop}
use Rattle.program.specs.declared.step.Operand.{Operand}
use Rattle.program.specs.declared.reader.Counts.{Counts}
use Rattle.program.specs.declared.refusal.Field.TheVariants.{Variables, Arrays, Length, Steps}
use Rattle.program.specs.declared.refusal.Reason.TheVariants.{Extra}
use Rattle.program.specs.declared.refusal.Refusal.{Refusal}
use Rattle.program.specs.Program.{Prog, total, counts_of, counts_by}
use Rattle.program.specs.Rows.{row_v, row_i, row_is, nats, row_p, ok_i, ok_is, small, Program}
use Rattle.program.specs.Reading.{and_then, index_in, step_in, width, widths, moved, step_at, steps_at, lengths_at, Head, head_in, head_counts, first, ended, decode, offsets_of}
use Rattle.program.proofs.Results.{T_true, both, both-T, ok_same, then_by, then_was, cond_was, err_not_ok, nth_drop, drop_nth, drop-next, index_reads, index_was}
use Rattle.program.proofs.OneStep.{step_reads, step_was, length-row_v}

pair_length : (a b : Operand) → suc (suc (length (row_v a ++ row_v b))) ≡ 6
pair_length a b = ap (λ n. suc (suc n)) (length-append (row_v a) (row_v b) ∙ rw (length-row_v a, length-row_v b) refl)

pub length-row_i : (i : Step) → length (row_i i) ≡ width i
length-row_i (Set x e) = ap (λ n. suc (suc n)) (length-row_v e)
length-row_i (Add x a b) = pair_length a b
length-row_i (Sub x a b) = pair_length a b
length-row_i (Mul x z e) = ap (λ n. suc (suc (suc n))) (length-row_v e)
length-row_i (Load x a e) = ap (λ n. suc (suc (suc n))) (length-row_v e)
length-row_i (Store a e f) = pair_length e f
length-row_i (Ask x) = refl
length-row_i (Show e) = ap suc (length-row_v e)
length-row_i (Go t) = refl
length-row_i (Less a b t) = pair_length a b
length-row_i Stop = refl

pub length-row_is : (is : List Step) → length (row_is is) ≡ widths is
length-row_is [] = refl
length-row_is (i ∷ is) = length-append (row_i i) (row_is is) ∙ rw (length-row_i i, length-row_is is) refl

-- steps
moved_was : (n : ℕ) (r : Result Step Refusal) (i : Step) → moved n r ≡ Ok i → r ≡ Ok i
moved_was n (Ok x) i e = e
moved_was n (Err f) i e = absurd (err_not_ok _ i e)

pub steps_at_reads : (c : Counts) (is : List Step) (s : List ℤ) (at : ℕ) (t : List ℤ) → T (ok_is c is) → drop at s ≡ row_is is ++ t → steps_at c s at (length is) ≡ Ok is
steps_at_reads c [] s at t h e = refl
steps_at_reads c (i ∷ is) s at t h e =
    let ok = both (ok_i c i) (ok_is c is) h in
    let e' : drop at s ≡ row_i i ++ (row_is is ++ t) = e ∙ append_assoc (row_i i) (row_is is) t in
    let one : step_at c s at ≡ Ok i = ap (λ r. moved (min at (length s)) (step_in c r)) e' ∙ ap (moved (min at (length s))) (step_reads c i (row_is is ++ t) ok.0) in
    then_by (step_at c s at) _ i _ one
    (then_by (steps_at c s (at + width i) (length is)) _ is _ (steps_at_reads c is s (at + width i) t ok.1 (drop-next s at (width i) (row_i i) (row_is is ++ t) e' (length-row_i i))) refl)

abbrev StepsWere : Counts → List ℤ → ℕ → ℕ → List Step → Type 0
StepsWere c s at n is = (length is ≡ n) × (drop at s ≡ row_is is ++ drop (at + widths is) s) × T (ok_is c is)

pub step_at_was : (c : Counts) (s : List ℤ) (at : ℕ) (i : Step) → step_at c s at ≡ Ok i → (drop at s ≡ row_i i ++ drop (at + width i) s) × T (ok_i c i)
step_at_was c s at i e =
    let w = step_was c (drop at s) i (moved_was (min at (length s)) (step_in c (drop at s)) i e) in
    (w.0 ∙ ap (λ r. row_i i ++ r) (drop-drop (width i) at s), w.1)

pub steps_at_was : (c : Counts) (n : ℕ) (s : List ℤ) (at : ℕ) (is : List Step) → steps_at c s at n ≡ Ok is → StepsWere c s at n is
steps_at_was c zero s at is e = subst (StepsWere c s at zero) (ok_same _ _ e) (refl, rw add-zero refl, tt)
steps_at_was c (suc n) s at is e =
    let u = then_was (step_at c s at) (λ i. and_then (steps_at c s (at + width i) n) (λ is. Ok (i ∷ is))) is e in
    let v = then_was (steps_at c s (at + width u.0) n) (λ is. Ok (u.0 ∷ is)) is u.2 in
    subst (StepsWere c s at (suc n)) (ok_same _ _ v.2) (joined u.0 v.0 (step_at_was c s at u.0 u.1) (steps_at_was c n s (at + width u.0) v.0 v.1))
  where
    joined : (i : Step) (is : List Step) → (drop at s ≡ row_i i ++ drop (at + width i) s) × T (ok_i c i) → StepsWere c s (at + width i) n is → StepsWere c s at (suc n) (i ∷ is)
    joined i is a b = (
      ap suc b.0,
      a.0 ∙ ap (λ r. row_i i ++ r) (b.1 ∙ rw (add_assoc at (width i) (widths is)) refl) ∙ sym (append_assoc (row_i i) (row_is is) (drop (at + (width i + widths is)) s)),
      both-T (ok_i c i) (ok_is c is) a.1 b.2,
    )

-- lengths
pub length-nats : (ns : List ℕ) → length (nats ns) ≡ length ns
length-nats [] = refl
length-nats (n ∷ ns) = ap suc (length-nats ns)

pub lengths_at_reads : (ns : List ℕ) (s : List ℤ) (at : ℕ) (t : List ℤ) → T (small ns) → drop at s ≡ nats ns ++ t → lengths_at s at (length ns) ≡ Ok ns
lengths_at_reads [] s at t h e = refl
lengths_at_reads (n ∷ ns) s at t h e =
    let ok = both (leb n 65536) (small ns) h in
    then_by (index_in s at Length) _ n _ (index_reads s at Length n ok.0 (nth_drop s at (pos n) (nats ns ++ t) e))
    (then_by (lengths_at s (at + 1) (length ns)) _ ns _ (lengths_at_reads ns s (at + 1) t ok.1 (drop-next s at 1 (pos n ∷ []) (nats ns ++ t) e refl)) refl)

abbrev LengthsWere : List ℤ → ℕ → ℕ → List ℕ → Type 0
LengthsWere s at n ns = (length ns ≡ n) × (drop at s ≡ nats ns ++ drop (at + n) s) × T (small ns)

pub lengths_at_was : (n : ℕ) (s : List ℤ) (at : ℕ) (ns : List ℕ) → lengths_at s at n ≡ Ok ns → LengthsWere s at n ns
lengths_at_was zero s at ns e = subst (LengthsWere s at zero) (ok_same _ _ e) (refl, rw add-zero refl, tt)
lengths_at_was (suc n) s at ns e =
    let u = then_was (index_in s at Length) (λ k. and_then (lengths_at s (at + 1) n) (λ ks. Ok (k ∷ ks))) ns e in
    let v = then_was (lengths_at s (at + 1) n) (λ ks. Ok (u.0 ∷ ks)) ns u.2 in
    subst (LengthsWere s at (suc n)) (ok_same _ _ v.2) (joined u.0 v.0 (index_was s at Length u.0 u.1) (lengths_at_was n s (at + 1) v.0 v.1))
  where
    joined : (k : ℕ) (ks : List ℕ) → (slice_get s at ≡ Some (pos k)) × T (leb k 65536) → LengthsWere s (at + 1) n ks → LengthsWere s at (suc n) (k ∷ ks)
    joined k ks a b =
        let sums : at + 1 + n ≡ at + suc n = omega arith in (
          ap suc b.0,
          drop_nth s at (pos k) a.0 ∙ ap (λ r. pos k ∷ r) (b.1 ∙ ap (λ m. nats ks ++ drop m s) sums),
          both-T (leb k 65536) (small ks) a.1 b.2,
        )

-- what stands before the steps
abbrev head_row : Head → List ℤ
head_row h = pos h.vars ∷ pos (length h.arrays) ∷ (nats h.arrays ++ (pos h.steps ∷ []))

abbrev ok_head : Head → Type 0
ok_head h = T (leb 1 h.vars && leb h.vars 64) × T (leb (length h.arrays) 16) × T (small h.arrays) × T (leb h.steps 4096)

pub head_reads : (h : Head) (t : List ℤ) → ok_head h → head_in (head_row h ++ t) ≡ Ok h
head_reads h t ok =
    let s = head_row h ++ t in
    let ns = h.arrays in
    let lengths : drop 2 s ≡ nats ns ++ (pos h.steps ∷ t) = append_assoc (nats ns) (pos h.steps ∷ []) t in
    then_by (index_in s 0 Variables) _ h.vars _ (index_reads s 0 Variables h.vars ok.0 refl)
    (then_by (index_in s 1 Arrays) _ (length ns) _ (index_reads s 1 Arrays (length ns) ok.1 refl)
    (then_by (lengths_at s 2 (length ns)) _ ns _ (lengths_at_reads ns s 2 (pos h.steps ∷ t) ok.2 lengths)
    (then_by (index_in s (2 + length ns) Steps) _ h.steps _ (index_reads s (2 + length ns) Steps h.steps ok.3 (nth_drop s (2 + length ns) (pos h.steps) t (drop-next s 2 (length ns) (nats ns) (pos h.steps ∷ t) lengths (length-nats ns)))) refl)))

abbrev HeadWas : List ℤ → Head → Type 0
HeadWas s h = (s ≡ head_row h ++ drop (3 + length h.arrays) s) × ok_head h

pub head_was : (s : List ℤ) (h : Head) → head_in s ≡ Ok h → HeadWas s h
head_was s h e =
    let a = then_was (index_in s 0 Variables) (λ vars. and_then (index_in s 1 Arrays) (λ n. and_then (lengths_at s 2 n) (λ ns. and_then (index_in s (2 + n) Steps) (λ steps. Ok (record { vars = vars; arrays = ns; steps = steps }))))) h e in
    let b = then_was (index_in s 1 Arrays) (λ n. and_then (lengths_at s 2 n) (λ ns. and_then (index_in s (2 + n) Steps) (λ steps. Ok (record { vars = a.0; arrays = ns; steps = steps })))) h a.2 in
    let c = then_was (lengths_at s 2 b.0) (λ ns. and_then (index_in s (2 + b.0) Steps) (λ steps. Ok (record { vars = a.0; arrays = ns; steps = steps }))) h b.2 in
    let d = then_was (index_in s (2 + b.0) Steps) (λ steps. Ok (record { vars = a.0; arrays = c.0; steps = steps })) h c.2 in
    subst (HeadWas s) (ok_same _ _ d.2) (joined a.0 b.0 c.0 d.0 (index_was s 0 Variables a.0 a.1) (index_was s 1 Arrays b.0 b.1) (lengths_at_was b.0 s 2 c.0 c.1) (index_was s (2 + b.0) Steps d.0 d.1))
  where
    joined : (vars n : ℕ) (ns : List ℕ) (steps : ℕ) → (slice_get s 0 ≡ Some (pos vars)) × T (leb 1 vars && leb vars 64) → (slice_get s 1 ≡ Some (pos n)) × T (leb n 16) → LengthsWere s 2 n ns → (slice_get s (2 + n) ≡ Some (pos steps)) × T (leb steps 4096) → HeadWas s (record { vars = vars; arrays = ns; steps = steps })
    joined vars n ns steps a b c d =
        let same = c.0 in
        let last : 2 + n + 1 ≡ 3 + length ns = omega arith in (
          drop_nth s 0 (pos vars) a.0 ∙ ap (λ r. pos vars ∷ r) (drop_nth s 1 (pos n) b.0 ∙ ap (λ r. pos n ∷ r) (c.1 ∙ ap (λ r. nats ns ++ r) (drop_nth s (2 + n) (pos steps) d.0 ∙ ap (λ m. pos steps ∷ drop m s) last) ∙ sym (append_assoc (nats ns) (pos steps ∷ []) (drop (3 + length ns) s))) ∙ ap (λ m. pos m ∷ ((nats ns ++ (pos steps ∷ [])) ++ drop (3 + length ns) s)) (sym same)),
          (a.1, subst (λ m. T (leb m 16)) (sym same) b.1, c.2, d.1),
        )

-- programs
length_head_row : (h : Head) → length (head_row h) ≡ first (head_counts h)
length_head_row h =
    let e = length-append (nats h.arrays) (pos h.steps ∷ []) in
    let n = length-nats h.arrays in
    omega arith

abbrev head : Prog → Head
head p = record { vars = p.vars; arrays = p.arrays; steps = length p.code }

rows_split : (p : Prog) → head_row (head p) ++ row_is p.code ≡ row_p p
rows_split p = ap (λ r. pos p.vars ∷ pos (length p.arrays) ∷ r) (append_assoc (nats p.arrays) (pos (length p.code) ∷ []) (row_is p.code))

-- the limits, one by one
abbrev Fine : Prog → Type 0
Fine p = ok_head (head p) × T (ok_is (counts_of p) p.code)

fine : (s : List ℤ) (p : Prog) → Program s p → Fine p
fine s p is =
    let a = both (leb 1 p.vars) _ is.fine in
    let b = both (leb p.vars 64) _ a.1 in
    let c = both (leb (length p.arrays) 16) _ b.1 in
    let d = both (small p.arrays) _ c.1 in
    let e = both (leb (length p.code) 4096) _ d.1 in
    ((both-T (leb 1 p.vars) _ a.0 b.0, c.0, d.0, e.0), e.1)

program : (s : List ℤ) (p : Prog) → head_row (head p) ++ row_is p.code ≡ s → Fine p → Program s p
program s p e ok =
    let v = both (leb 1 p.vars) (leb p.vars 64) ok.0.0 in
    record {
      rows = sym (rows_split p) ∙ e;
      fine = both-T (leb 1 p.vars) _ v.0 (both-T (leb p.vars 64) _ v.1 (both-T (leb (length p.arrays) 16) _ ok.0.1 (both-T (small p.arrays) _ ok.0.2 (both-T (leb (length p.code) 4096) _ ok.0.3 ok.1))));
    }

-- a program's steps stand behind what stands before them
rest_is : (s : List ℤ) (p : Prog) → Program s p → drop (first (counts_of p)) s ≡ row_is p.code ++ []
rest_is s p is =
    ap (drop (first (counts_of p))) (sym (rows_split p ∙ is.rows))
    ∙ drop_at (head_row (head p)) (row_is p.code) (first (counts_of p)) (length_head_row (head p))
    ∙ sym (append-nil (row_is p.code))

pub steps_are : (s : List ℤ) (p : Prog) → Program s p → steps_at (counts_of p) s (first (counts_of p)) (length p.code) ≡ Ok p.code
steps_are s p is = steps_at_reads (counts_of p) p.code s (first (counts_of p)) [] (fine s p is).1 (rest_is s p is)

pub lengths_are : (s : List ℤ) (p : Prog) → Program s p → lengths_at s 2 (length p.arrays) ≡ Ok p.arrays
lengths_are s p is = lengths_at_reads p.arrays s 2 _ (fine s p is).0.2 (ap (drop 2) (sym is.rows))

pub few_arrays : (s : List ℤ) (p : Prog) → Program s p → length p.arrays ≤ 16
few_arrays s p is = leb-true _ 16 (T_true _ (fine s p is).0.1)

pub few_vars : (s : List ℤ) (p : Prog) → Program s p → p.vars ≤ 64
few_vars s p is = leb-true _ 64 (T_true _ (both (leb 1 p.vars) _ (fine s p is).0.0).1)

pub few_words : (s : List ℤ) (p : Prog) → Program s p → total p.arrays ≤ 65536 * 16
few_words s p is =
    let sum = go p.arrays (fine s p is).0.2 in
    let few = few_arrays s p is in
    omega (arith, sum, few)
  where
    go : (ns : List ℕ) → T (small ns) → total ns ≤ 65536 * length ns
    go [] h = omega arith
    go (n ∷ ns) h =
        let u = both (leb n 65536) (small ns) h in
        let first = leb-true n 65536 (T_true _ u.0) in
        let rest = go ns u.1 in
        omega (arith, first, rest)

pub few_steps : (s : List ℤ) (p : Prog) → Program s p → length p.code ≤ 4096
few_steps s p is = leb-true _ 4096 (T_true _ (fine s p is).0.3)

-- the same at counts that are the program's
pub steps_found : (s : List ℤ) (p : Prog) (k : Counts) → Program s p → k ≡ counts_of p → steps_at k s (first k) k.steps ≡ Ok p.code
steps_found s p k is e = subst (λ k. steps_at k s (first k) k.steps ≡ Ok p.code) (sym e) (steps_are s p is)

pub all_steps : (s : List ℤ) (p : Prog) (k : Counts) → Program s p → k ≡ counts_of p → steps_at k s (first k) (k.steps - 0) ≡ Ok p.code
all_steps s p k is e =
    let none : k.steps - 0 ≡ k.steps = omega arith in
    ap (steps_at k s (first k)) none ∙ steps_found s p k is e

pub arrays_found : (s : List ℤ) (p : Prog) (k : Counts) → Program s p → k ≡ counts_of p → k.arrays ≤ 16
arrays_found s p k is e = subst (λ k. k.arrays ≤ 16) (sym e) (few_arrays s p is)

pub decode_reads : (s : List ℤ) (p : Prog) → Program s p → decode s ≡ Ok p
decode_reads s p is =
    let c = counts_of p in
    let rows = rows_split p ∙ is.rows in
    let long : first c + widths p.code ≡ length s = sym (ap length (sym rows) ∙ length-append (head_row (head p)) (row_is p.code) ∙ rw (length_head_row (head p), length-row_is p.code) refl) in
    then_by (head_in s) _ (head p) _ (subst (λ r. head_in r ≡ Ok (head p)) rows (head_reads (head p) (row_is p.code) (fine s p is).0))
    (then_by (steps_at c s (first c) (length p.code)) _ p.code _ (steps_are s p is)
    (rw (eq-eqb (first c + widths p.code) (length s) long) refl))

pub decode_was : (s : List ℤ) (p : Prog) → decode s ≡ Ok p → Program s p
decode_was s p e =
    let a = then_was (head_in s) (λ h. and_then (steps_at (head_counts h) s (first (head_counts h)) h.steps) (λ is. ended s (first (head_counts h) + widths is) (record { vars = h.vars; arrays = h.arrays; code = is }))) p e in
    let h = a.0 in
    let c = head_counts h in
    let b = then_was (steps_at c s (first c) h.steps) (λ is. ended s (first c + widths is) (record { vars = h.vars; arrays = h.arrays; code = is })) p a.2 in
    let d = cond_was (eqb (first c + widths b.0) (length s)) (record { vars = h.vars; arrays = h.arrays; code = b.0 }) p (record { at = first c + widths b.0; reason = Extra }) b.2 in
    subst (Program s) d.0 (joined h b.0 (head_was s h a.1) (steps_at_was c h.steps s (first c) b.0 b.1) (eqb-true _ _ (T_true _ d.1)))
  where
    joined : (h : Head) (is : List Step) → HeadWas s h → StepsWere (head_counts h) s (first (head_counts h)) h.steps is → first (head_counts h) + widths is ≡ length s → Program s (record { vars = h.vars; arrays = h.arrays; code = is })
    joined h is a b l =
        let same = b.0 in
        let none : drop (first (head_counts h) + widths is) s ≡ [] = drop_all _ s (omega arith) in
        let steps : drop (first (head_counts h)) s ≡ row_is is = b.1 ∙ ap (λ r. row_is is ++ r) none ∙ append-nil (row_is is) in
        program s (record { vars = h.vars; arrays = h.arrays; code = is })
        (subst (λ n. head_row (record { vars = h.vars; arrays = h.arrays; steps = n }) ++ row_is is ≡ s) (sym same) (sym (a.0 ∙ ap (λ r. head_row h ++ r) steps)))
        ((a.1.0, a.1.1, a.1.2, subst (λ n. T (leb n 4096)) (sym same) a.1.3), subst (λ n. T (ok_is (counts_by h.vars h.arrays n) is)) (sym same) b.2)

pub one_program : (s : List ℤ) (p q : Prog) → Program s p → Program s q → p ≡ q
one_program s p q a b = ok_same p q (sym (decode_reads s p a) ∙ decode_reads s q b)

-- the offsets of steps are where their rows begin
begin : (is : List Step) (s : List ℤ) (at : ℕ) (t : List ℤ) (k : ℕ) (i : Step) → drop at s ≡ row_is is ++ t → slice_get is k ≡ Some i → (o : ℕ) × (slice_get (offsets_of at is) k ≡ Some (pos o)) × (drop o s ≡ row_i i ++ drop (o + width i) s)
begin [] s at t k i e h = absurd (let z : ◌≡◌ {A = ℕ} 0 1 = cc in omega arith)
begin (j ∷ is) s at t zero i e h =
    let e' = e ∙ append_assoc (row_i j) (row_is is) t in
    let here : drop at s ≡ row_i j ++ drop (at + width j) s = e' ∙ ap (λ r. row_i j ++ r) (sym (drop-next s at (width j) (row_i j) (row_is is ++ t) e' (length-row_i j))) in
    let same : j ≡ i = cc in
    (at, refl, subst (λ i. drop at s ≡ row_i i ++ drop (at + width i) s) same here)
begin (j ∷ is) s at t (suc k) i e h =
    let e' = e ∙ append_assoc (row_i j) (row_is is) t in
    begin is s (at + width j) t k i (drop-next s at (width j) (row_i j) (row_is is ++ t) e' (length-row_i j)) h

pub offsets_begin : (s : List ℤ) (p : Prog) (k : ℕ) (i : Step) → Program s p → slice_get p.code k ≡ Some i → (o : ℕ) × (slice_get (offsets_of (first (counts_of p)) p.code) k ≡ Some (pos o)) × (drop o s ≡ row_i i ++ drop (o + width i) s)
offsets_begin s p k i is h = begin p.code s (first (counts_of p)) [] k i (rest_is s p is) h

-- an array's length stands behind the two counts
pub length_reads : (s : List ℤ) (p : Prog) (a n : ℕ) → Program s p → slice_get p.arrays a ≡ Some n → index_in s (2 + a) Length ≡ Ok n
length_reads s p a n is h = go p.arrays s 2 _ a (fine s p is).0.2 (ap (drop 2) (sym is.rows)) h
  where
    go : (ns : List ℕ) (s : List ℤ) (at : ℕ) (t : List ℤ) (a : ℕ) → T (small ns) → drop at s ≡ nats ns ++ t → slice_get ns a ≡ Some n → index_in s (at + a) Length ≡ Ok n
    go [] s at t a ok e h = absurd (let z : ◌≡◌ {A = ℕ} 0 1 = cc in omega arith)
    go (m ∷ ns) s at t zero ok e h =
        let same : m ≡ n = cc in
        rw add-zero (subst (λ n. index_in s at Length ≡ Ok n) same (index_reads s at Length m (both (leb m 65536) (small ns) ok).0 (nth_drop s at (pos m) (nats ns ++ t) e)))
    go (m ∷ ns) s at t (suc a) ok e h =
        let next : at + 1 + a ≡ at + suc a = omega arith in
        subst (λ k. index_in s k Length ≡ Ok n) next (go ns s (at + 1) t a (both (leb m 65536) (small ns) ok).1 (drop-next s at 1 (pos m ∷ []) (nats ns ++ t) e refl) h)

-- the lengths as they stand in the rows
pub arrays_are : (s : List ℤ) (p : Prog) → Program s p → take (length p.arrays) (drop 2 s) ≡ nats p.arrays
arrays_are s p is = ap (λ r. take (length p.arrays) (drop 2 r)) (sym is.rows) ∙ take_at (nats p.arrays) _ (length p.arrays) (length-nats p.arrays)
