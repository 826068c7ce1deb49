-- What the public calls promise, from what their bodies find.
use Rattle.std.proofs.Common.{◌≡◌, ℕ, ◌+◌, ◌≤◌, Bool, true, false, cond, eqb, List, length, ℤ, Ok, Err, Result, sym, refl, ap, ◌∙◌, subst}
use Rattle.std.proofs.lemmas.Bool.{leb-true}
use Rattle.program.specs.declared.step.Step.{Step}
use Rattle.program.specs.declared.reader.Counts.{Counts}
use Rattle.program.specs.declared.refusal.Refusal.{Refusal}
use Rattle.program.specs.Program.{Prog, counts_of, counts_by}
use Rattle.program.specs.declared.refusal.Reason.TheVariants.{Extra}
use Rattle.program.specs.Reading.{and_then, refused, steps_at, widths, Head, head_in, head_counts, counts_in, end_in, first, ended, decode, nothing, program_in}
use Rattle.std.specs.Result.{result_unwrap_or}
use Rattle.program.specs.Rows.{Program}
use Rattle.program.specs.Says.{Parts, Refused, ReadPost}
use Rattle.program.proofs.Results.{T_true, ok_same, err_not_ok, then_was}
use Rattle.program.proofs.Whole.{head_was, steps_at_was, decode_reads, decode_was, one_program, offsets_begin}

pub parts : Parts
parts = record { one_program = one_program; offsets_begin = offsets_begin }

abbrev pub found : List ℤ → Result Counts Refusal
found s = and_then (decode s) (λ p. Ok (counts_of p))

-- counts of the program that the rows are
pub known : (s : List ℤ) (p : Prog) (c : Counts) → Program s p → c ≡ counts_of p → Program s (program_in s) × (c ≡ counts_of (program_in s))
known s p c is e =
    let same : p ≡ program_in s = sym (ap (λ r. result_unwrap_or r nothing) (decode_reads s p is)) in
    (subst (Program s) same is, e ∙ ap counts_of same)

-- the counts that stand before the steps are such
pub counts_known : (s : List ℤ) (p : Prog) → Program s p → counts_in s ≡ Ok (counts_of p)
counts_known s p is = go (head_in s) refl (decode_reads s p is)
  where
    code_in : Head → List Step → Prog
    code_in h is = record { vars = h.vars; arrays = h.arrays; code = is }

    ends : (h : Head) (is : List Step) (b : Bool) (end : ℕ) → length is ≡ h.steps → cond b (Ok (code_in h is)) (refused end Extra) ≡ Ok p → head_counts h ≡ counts_of p
    ends h is true end l e = ap (λ n. counts_by h.vars h.arrays n) (sym l) ∙ ap counts_of (ok_same {E = Refusal} _ _ e)
    ends h is false end l e = absurd (err_not_ok _ p e)

    steps : (h : Head) (d : Result (List Step) Refusal) → steps_at (head_counts h) s (first (head_counts h)) h.steps ≡ d → and_then d (λ is. ended s (first (head_counts h) + widths is) (code_in h is)) ≡ Ok p → head_counts h ≡ counts_of p
    steps h (Ok is) q e = ends h is (eqb (first (head_counts h) + widths is) (length s)) (first (head_counts h) + widths is) (steps_at_was (head_counts h) h.steps s (first (head_counts h)) is q).0 e
    steps h (Err f) q e = absurd (err_not_ok f p e)

    go : (d : Result Head Refusal) → head_in s ≡ d → and_then d (λ h. and_then (steps_at (head_counts h) s (first (head_counts h)) h.steps) (λ is. ended s (first (head_counts h) + widths is) (code_in h is))) ≡ Ok p → and_then d (λ h. Ok (head_counts h)) ≡ Ok (counts_of p)
    go (Ok h) q e = ap Ok (steps h (steps_at (head_counts h) s (first (head_counts h)) h.steps) refl e)
    go (Err f) q e = absurd (err_not_ok f p e)

-- counts that were found are such
pub found_ok : (s : List ℤ) (c : Counts) → Ok c ≡ found s → Program s (program_in s) × (c ≡ counts_of (program_in s))
found_ok s c e = go (decode s) refl e
  where
    go : (d : Result Prog Refusal) → decode s ≡ d → Ok c ≡ and_then d (λ p. Ok (counts_of p)) → Program s (program_in s) × (c ≡ counts_of (program_in s))
    go (Ok p) q e = known s p c (decode_was s p q) (ok_same {E = Refusal} _ _ e)
    go (Err f) q e = absurd (err_not_ok f c (sym e))

-- a refusal
pub found-err : (s : List ℤ) (f : Refusal) → Err f ≡ found s → ReadPost s (Err f)
found-err s f e = record { says = go (decode s) refl e; parts = parts }
  where
    go : (d : Result Prog Refusal) → decode s ≡ d → Err f ≡ and_then d (λ p. Ok (counts_of p)) → Refused s f
    go (Ok p) q e = absurd (err_not_ok f (counts_of p) e)
    go (Err g) q e =
        let same : g ≡ f = cc in
        (λ p is. err_not_ok g p (sym q ∙ decode_reads s p is), q ∙ ap Err same)

-- the order in which `read` goes
module _ (s : List ℤ) where
  abbrev code_of : Head → List Step → Prog
  code_of h is = record { vars = h.vars; arrays = h.arrays; code = is }

  by_end : (h : Head) (is : List Step) (b : Bool) (end : ℕ) → length is ≡ h.steps → cond b (Ok (head_counts h)) (refused end Extra) ≡ and_then (cond b (Ok (code_of h is)) (refused end Extra)) (λ p. Ok (counts_of p))
  by_end h is true end e = ap (λ n. Ok (counts_by h.vars h.arrays n)) (sym e)
  by_end h is false end e = refl

  by_steps : (h : Head) (d : Result (List Step) Refusal) → steps_at (head_counts h) s (first (head_counts h)) h.steps ≡ d → and_then (and_then d (λ is. Ok (first (head_counts h) + widths is))) (λ end. ended s end (head_counts h)) ≡ and_then (and_then d (λ is. ended s (first (head_counts h) + widths is) (code_of h is))) (λ p. Ok (counts_of p))
  by_steps h (Ok is) q =
      let end = first (head_counts h) + widths is in
      by_end h is (eqb end (length s)) end (steps_at_was (head_counts h) h.steps s (first (head_counts h)) is q).0
  by_steps h (Err f) q = refl

  by_head : (d : Result Head Refusal) → and_then (and_then d (λ h. Ok (head_counts h))) (λ c. and_then (end_in c s) (λ end. ended s end c)) ≡ and_then (and_then d (λ h. and_then (steps_at (head_counts h) s (first (head_counts h)) h.steps) (λ is. ended s (first (head_counts h) + widths is) (code_of h is)))) (λ p. Ok (counts_of p))
  by_head (Ok h) = by_steps h (steps_at (head_counts h) s (first (head_counts h)) h.steps) refl
  by_head (Err f) = refl

  pub no_head : (f : Refusal) → Err f ≡ counts_in s → Err f ≡ found s
  no_head f e = ap (λ r. and_then r (λ c. and_then (end_in c s) (λ end. ended s end c))) e ∙ by_head (head_in s)

  pub by_its_end : (c : Counts) (r : Result ℕ Refusal) → Ok c ≡ counts_in s → r ≡ end_in c s → and_then r (λ end. ended s end c) ≡ found s
  by_its_end c r e q = ap (λ r. and_then r (λ end. ended s end c)) q ∙ ap (λ r. and_then r (λ c. and_then (end_in c s) (λ end. ended s end c))) e ∙ by_head (head_in s)

  pub header_few : (c : Counts) → Ok c ≡ counts_in s → c.arrays ≤ 16
  header_few c e =
      let w = then_was (head_in s) (λ h. Ok (head_counts h)) c (sym e) in
      subst (λ c. c.arrays ≤ 16) (ok_same _ _ w.2) (leb-true _ 16 (T_true _ (head_was s w.0 w.1).1.1))
