-- What is promised of each answer.
use Rattle.std.proofs.Common.{◌≡◌, ℕ, ◌+◌, ◌*◌, ◌<◌, ◌≤◌, ◌⊎◌, List, length, take, drop, ℤ, sym, refl, ap, ◌∙◌, subst, inl, inr, arith}
use Rattle.program.specs.Program.{Prog, counts_of}
use Rattle.program.specs.Rows.{Program}
use Rattle.program.proofs.Whole.{one_program}
use Rattle.table.specs.Rows.{row_t}
use Rattle.table.proofs.Rows.{one_table}
use Rattle.table.proofs.Looks.{looking_once}
use Rattle.table.proofs.Truth.{tables_true, never_fails}
use Rattle.table.proofs.Licensing.{more_licences}
use Rattle.fixpoint.specs.Joining.{table_in}
use Rattle.fixpoint.proofs.Leasts.{has_least, one_least, least_in_bits, least_sound, way_ends}
use Rattle.fixpoint.proofs.Guesses.{guess_right}
use Rattle.fixpoint.proofs.Ways.{way_sound, way_last}
use Rattle.fixpoint.proofs.Cases.{least_worked}
use Rattle.least.specs.declared.call.Found.{Found}
use Rattle.least.specs.declared.call.Found.TheVariants.{Ranges, NoProgram, Few}
use Rattle.least.specs.Going.{Ended}
use Rattle.least.specs.Says.{wants_of, LicencesMost, Parts, FoundPost}

licences_most : LicencesMost
licences_most s p t u n is h k = more_licences p t u n (h.least u k n) ((least_sound s p t is h).proper n)

parts : Parts
parts = record { one_program = one_program; one_table = one_table; has_least = has_least; one_least = one_least; least_in_bits = least_in_bits; looking_once = looking_once; tables_true = tables_true; never_fails = never_fails; licences_most = licences_most; guess_right = guess_right; way_sound = way_sound; way_last = way_last; way_ends = way_ends; worked = least_worked }

-- answers of two kinds are not the same
abbrev kind : Found → ℕ
kind (Ranges n) = 0
kind NoProgram = 1
kind Few = 2

apart : (r q : Found) → (kind r ≡ kind q → ⊥) → r ≡ q → ⊥
apart r q h e = h (ap kind e)

-- too few numbers are lent for the table or for the work
abbrev pub Short : ℕ → ℕ → ℕ → Type 0
Short b o w = (o < b) ⊎ (w < 4096 + 64 * b)

module _ (s o o' : List ℤ) (w : ℕ) where
  pub no_program : ((p : Prog) → Program s p → ⊥) → o' ≡ o → FoundPost s o o' w NoProgram
  no_program none same = record {
    says = (none, same);
    no_program = (λ h. refl, λ e. none);
    few = (λ h. absurd (none h.0 h.1), λ e. absurd (apart NoProgram Few (λ z. omega arith) e));
    parts = parts;
  }

  module _ (p : Prog) (is : Program s p) where
    pub few : Short (wants_of p) (length o) w → o' ≡ o → FoundPost s o o' w Few
    few short same = record {
      says = same;
      no_program = (λ h. absurd (h p is), λ f. absurd (apart Few NoProgram (λ z. omega arith) f));
      few = (λ h. refl, λ f. (p, is, short));
      parts = parts;
    }

    pub found : (n : ℕ) (l : List ℤ) → wants_of p ≤ length o → 4096 + 64 * wants_of p ≤ w → length l ≡ wants_of p → take (wants_of p) o' ≡ l → drop (wants_of p) o' ≡ drop (wants_of p) o → Ended p l n → FoundPost s o o' w (Ranges n)
    found n l enough room long first rest end = record {
      says = (p, table_in (counts_of p) l, is, end.least, ap (λ k. take k o') all ∙ first ∙ sym end.rows, ap (λ k. drop k o') all ∙ rest ∙ ap (λ k. drop k o) (sym all), (end.came.sweeps, end.came.leads, end.came.is_count));
      no_program = (λ h. absurd (h p is), λ f. absurd (apart (Ranges n) NoProgram (λ z. omega arith) f));
      few = (λ h. absurd (not_short (subst (λ q. Short (wants_of q) (length o) w) (one_program s h.0 p h.1 is) h.2)), λ f. absurd (apart (Ranges n) Few (λ z. omega arith) f));
      parts = parts;
    }
      where
        all : length (row_t p.vars (table_in (counts_of p) l)) ≡ wants_of p
        all = ap length end.rows ∙ long

        not_short : Short (wants_of p) (length o) w → ⊥
        not_short (inl l) = omega arith
        not_short (inr l) = omega arith
