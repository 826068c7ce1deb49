-- The text of a run that came to an end.
use Rattle.std.proofs.Common.{◌≡◌, ℕ, List, ◌++◌, take, ℤ, Ok, Err, Result, String, ◌⊎◌, inl, inr, sym, ap, ◌∙◌, subst}
use Rattle.std.specs.declared.alloc.Global.{Global}
use Rattle.program.specs.Program.{Prog}
use Rattle.program.specs.Rows.{Program}
use Rattle.program.specs.Runs.{Run, on, stopped, fails, steps, begin}
use Rattle.table.specs.Tables.{Table, Holds}
use Rattle.table.specs.Rows.{row_t}
use Rattle.table.specs.Licences.{tests}
use Rattle.interpreter.specs.declared.Ran.{Ran}
use Rattle.interpreter.specs.declared.Ran.TheVariants.{Stopped, Failed, More}
use Rattle.interpreter.specs.Ending.{shown_by, answer_of}
use Rattle.interpreter.specs.Says.{RanSays}
use Rattle.transcript.specs.Transcripts.{number_lines, end_line, run_text, Written, RunTextSays}
use Rattle.message.specs.declared.Error.{Error}

-- it showed k numbers
abbrev pub Ended : ℕ → Ran → Type 0
Ended k ran = ((c : ℕ) × (ran ≡ Stopped k c)) ⊎ (((a : ℕ) × (c : ℕ) × (ran ≡ Failed a k c)) ⊎ ((c : ℕ) × (ran ≡ More k c)))

module _ (s l q : List ℤ) (n room w : ℕ) (o o' : List ℤ) (k : ℕ) (ran : Ran) where
  said : (p : Prog) (t : Table) → Program s p → row_t p.vars t ≡ l → Holds p t → (x : Run) (c : ℕ) → steps n p (begin p q) ≡ x → take k o' ≡ shown_by x → c ≡ tests n p t (begin p q) → ran ≡ answer_of x c → (r : Result (String Global) Error) → Written (number_lines (take k o') ++ end_line ran) r → RunTextSays s l q n room w r
  said p t is rows holds x c e h f a (Err error) r = subst (λ e. RunTextSays s l q n room w (Err e)) (sym r) tt
  said p t is rows holds x c e h f a (Ok out) r =
      let text : number_lines (take k o') ++ end_line ran ≡ run_text x c = ap (λ s. number_lines s ++ end_line ran) h ∙ ap (λ r. number_lines (shown_by x) ++ end_line r) a in
      (p, t, is, rows, holds, r ∙ text ∙ ap (λ x. run_text x c) (sym e) ∙ ap (run_text (steps n p (begin p q))) f)

  pub ended : Ended k ran → RanSays s l q n o o' ran → (r : Result (String Global) Error) → Written (number_lines (take k o') ++ end_line ran) r → RunTextSays s l q n room w r
  ended (inl (c, e)) h =
      let f = subst (RanSays s l q n o o') e h in
      said f.0 f.1 f.3 f.4 f.5 (stopped f.2) c f.6 f.8 f.10 (e ∙ ap (λ k. Stopped k c) f.7)
  ended (inr (inl (a, c, e))) h =
      let f = subst (RanSays s l q n o o') e h in
      said f.0 f.1 f.3 f.4 f.5 (fails a f.2) c f.6 f.8 f.10 (e ∙ ap (λ k. Failed a k c) f.7)
  ended (inr (inr (c, e))) h =
      let f = subst (RanSays s l q n o o') e h in
      said f.0 f.1 f.3 f.4 f.5 (on f.2) c f.6 f.8 f.10 (e ∙ ap (λ k. More k c) f.7)
