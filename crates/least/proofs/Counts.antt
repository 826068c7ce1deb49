-- Counting sweeps as far as 64 bits go.
use Rattle.std.proofs.Common.{◌≡◌, ℕ, ◌+◌, ◌<◌, ◌≤◌, Bool, true, false, cond, T, List, ℤ, sym, refl, ap, ◌∙◌, subst, arith}
use Rattle.program.specs.Program.{Prog}
use Rattle.program.specs.Rows.{Program}
use Rattle.table.specs.Tables.{Table}
use Rattle.fixpoint.specs.Least.{Sound}
use Rattle.fixpoint.specs.Rounds.{start, room}
use Rattle.fixpoint.specs.Confirming.{Over}
use Rattle.fixpoint.specs.Ways.{Leads, begin}
use Rattle.fixpoint.specs.Joining.{RoundSays}
use Rattle.fixpoint.specs.declared.Confirmed.{Confirmed}
use Rattle.fixpoint.specs.Moving.{ConfirmSays}
use Rattle.fixpoint.proofs.Guesses.{guess_over}
use Rattle.fixpoint.proofs.Ways.{way_sound, way_spent}
use Rattle.least.specs.Going.{counted, Came, Tried, Nearer}

counted_more : (n s k : ℕ) → n ≡ counted s → counted (n + k) ≡ counted (s + k)
counted_more n s k e = omega (arith, e)

-- so many sweeps more
pub came_more : (p : Prog) (t t' : Table) (n k : ℕ) → ((s : ℕ) → Leads p s t → Leads p (s + k) t') → Came p t n → Came p t' (counted (n + k))
came_more p t t' n k f w = record { sweeps = w.sweeps + k; leads = f w.sweeps w.leads; is_count = counted_more n w.sweeps k w.is_count }

-- a guess that was taken over
pub taken_nearer : (p : Prog) (t m t' : Table) (y : Bool) (k : ℕ) → y ≡ true → Tried p t m y k → (Over t m → t' ≡ m) → Nearer p t t' k
taken_nearer p t m t' y k e h taken =
    let same : t' ≡ m = taken (h.over e) in
    record {
      came = λ n w. subst (λ u. Came p u (counted (n + k))) (ap (λ y. cond y m t) e ∙ sym same) (h.came n w);
      no_more = λ s. subst (λ u. room p u ≤ room p t) (sym same) (h.no_more e s);
    }

pub came_start : (p : Prog) (t : Table) → t ≡ start p → Came p t 0
came_start p t e = record { sweeps = 0; leads = subst (Leads p 0) (sym e) begin; is_count = refl }

pub came_sound : (s : List ℤ) (p : Prog) (t : Table) (n : ℕ) → Program s p → Came p t n → Sound p t
came_sound s p t n is w = way_sound s p w.sweeps t is w.leads

-- a round that changes something leaves less room
pub round_less : (s : List ℤ) (p : Prog) (t t' : Table) (y : Bool) (n : ℕ) → Program s p → Came p t n → RoundSays p t t' y → y ≡ true → room p t' < room p t
round_less s p t t' y n is w r h = r.lowers (came_sound s p t n is w) h

-- and a guess after it no more
pub guess_less : (s : List ℤ) (p : Prog) (t t' t'' : Table) (y : Bool) (n k : ℕ) → Program s p → Came p t n → RoundSays p t t' y → y ≡ true → Nearer p t' t'' k → room p t'' < room p t
guess_less s p t t' t'' y n k is w r h g =
    let less = round_less s p t t' y n is w r h in
    let more = g.no_more (r.sound (came_sound s p t n is w)) in
    omega (arith, less, more)

-- a guess that was confirmed after so many sweeps, and one that was not
pub tried_yes : (p : Prog) (t m : Table) (k : ℕ) (r : Confirmed) → ConfirmSays p t m r → r.yes ≡ true → Tried p t m true (counted (k + r.sweeps))
tried_yes p t m k r h e =
    let sure : (s : ℕ) → Leads p s t → Leads p (s + r.sweeps) m = λ s w. subst (λ y. Leads p (s + r.sweeps) (cond y m t)) e (h.way s w) in
    record {
      came = λ n w. record {
        sweeps = w.sweeps + k + r.sweeps;
        leads = sure (w.sweeps + k) (way_spent p w.sweeps k t w.leads);
        is_count = omega (arith, w.is_count);
      };
      over = λ y. guess_over p t m r.sweeps (h.confirms e);
      no_more = λ y. h.no_more e;
    }

pub tried_no : (p : Prog) (t m : Table) (k : ℕ) → Tried p t m false k
tried_no p t m k = record {
  came = λ n. came_more p t t n k (λ s w. way_spent p s k t w);
  over = λ y. absurd (true_not_false (sym y));
  no_more = λ y. absurd (true_not_false (sym y));
}
  where
    true_not_false : true ≡ false → ⊥
    true_not_false e = subst T e tt
