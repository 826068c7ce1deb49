use Rattle.std.proofs.Common.{◌≡◌, ℕ, ◌+◌, ◌^◌, ◌≤◌, length, sym, ap, ◌∙◌, ⊎_elim, arith}
use Rattle.std.proofs.lemmas.Option.{slice_get_past}
use Rattle.std.proofs.lemmas.Bool.{cases_lt}
use Rattle.program.specs.declared.refusal.Field.TheVariants.{Length}
use Rattle.program.specs.declared.refusal.Reason.TheVariants.{Missing}
use Rattle.program.specs.Reading.{index_in, refused}
use Rattle.program.proofs.Whole.{length_reads}
use Rattle.program.proofs.reader.array_length.Goals as goal

pub returns : goal.returns
returns c =
    let s = c.args.rows.now in
    let past : (k : ℕ) → length s ≤ k → index_in s k Length ≡ refused (length s) (Missing Length) = λ k l. rw (slice_get_past s k l) in
    let exact : c.index.result ≡ index_in s (2 + c.args.array.0) Length = c.index.ensures ∙ ⊎_elim (λ l. ap (λ k. index_in s k Length) (omega arith)) (λ l. past c.saturating_add.result (omega arith) ∙ sym (past (2 + c.args.array.0) (omega arith))) (cases_lt (c.args.array.0 + 2) (2 ^ 64)) in
    record { exact = exact; length = λ p n is h. exact ∙ length_reads s p c.args.array.0 n is h }
