-- What the loop over the steps of a confirming sweep goes by.
use Rattle.std.proofs.Common.{◌≡◌, ℕ, zero, suc, ◌+◌, Bool, true, false, not, ◌||◌, T, List, [], ◌∷◌, set, ℤ, sym, refl, ap, ◌∙◌, ap₂, arith}
use Rattle.std.proofs.lemmas.List.{set-get_or}
use Rattle.std.proofs.lemmas.Bool.{cond_both}
use Rattle.program.specs.declared.Counts.{Counts}
use Rattle.program.specs.Program.{Prog, counts_of}
use Rattle.program.specs.Rows.{Program}
use Rattle.program.proofs.Results.{T_true, true-T}
use Rattle.interval.specs.declared.Range.{Range}
use Rattle.interval.specs.Ranges.{Box, At, never, within, inside1}
use Rattle.interval.proofs.Order.{order}
use Rattle.table.specs.Tables.{Table, at, words_of}
use Rattle.table.specs.declared.Hop.{Hop}
use Rattle.table.specs.Hops.{lands, IsHop}
use Rattle.table.proofs.Hopping.{Idle}
use Rattle.program.specs.declared.Step.{Step}
use Rattle.interval.specs.declared.Way.{Way}
use mathlib.Core.Bool.{or-false}
use Rattle.fixpoint.proofs.Hopping.{after_idle}
use Rattle.fixpoint.specs.Hops.{after}
use Rattle.fixpoint.specs.declared.guess.Confirmed.{Confirmed}
use Rattle.fixpoint.specs.Confirming.{Confirming, moved_at, wider_box, wider_at, confirm_at, confirm_hop, confirm_sweep, sweeps_of, reached, Confirms}
use Rattle.fixpoint.specs.Ways.{Leads, confirmed}
use Rattle.fixpoint.specs.Joining.{table_in}
use Rattle.fixpoint.specs.Moving.{Moved, moved_by, ConfirmSays}
use Rattle.fixpoint.proofs.Ways.{guess_sound, guess_no_more, way_spent}

-- where a hop makes nothing, of the guess or of the table, nothing moves
pub no_made : (m ms s : At) → moved_at m never ms s ≡ s
no_made m ms never = refl
no_made never ms (within s) = refl
no_made (within m) ms (within s) = refl

pub no_grown : (m mm s : At) → moved_at m mm never s ≡ s
no_grown m mm never = refl
no_grown never mm (within s) = refl
no_grown (within m) never (within s) = refl
no_grown (within m) (within mm) (within s) = refl

-- nothing is wider than itself
inside_self : (r : Range) → T (inside1 r r)
inside_self r = omega (arith, order)

wider_box_self : (b : Box) → wider_box b b ≡ false
wider_box_self [] = refl
wider_box_self (r ∷ b) = ap₂ (λ x y. not x || y) (T_true (inside1 r r) (inside_self r)) (wider_box_self b)

pub wider_self : (a : At) → wider_at a a ≡ false
wider_self never = refl
wider_self (within b) = wider_box_self b

pub nothing_moved : (c : Counts) (n : ℕ) (l : List ℤ) (a : At) → a ≡ at (table_in c l) n → Moved c n a l l false
nothing_moved c n l a e = record {
  table = sym (ap (set (table_in c l) n) e ∙ set-get_or (table_in c l) n never);
  moved = sym (ap (λ a. wider_at a (at (table_in c l) n)) e ∙ wider_self (at (table_in c l) n));
}

moved_is : (c : Counts) (n : ℕ) (a : At) (l l' : List ℤ) (y : Bool) → Moved c n a l l' y → (b : Bool) → record { table = table_in c l'; moved = b || y } ≡ confirm_at n a (record { table = table_in c l; moved = b })
moved_is c n a l l' y j b = ap₂ (λ t y. record { table = t; moved = b || y }) j.table j.moved

pub hop_moved : (p : Prog) (m : Table) (h : Hop) (words : ℕ) (c : Counts) (l l' : List ℤ) (y : Bool) → IsHop p h → words ≡ words_of p h.step → c ≡ counts_of p → Moved c h.to.0 (moved_by words m h (table_in c l)) l l' y → (b : Bool) → record { table = table_in (counts_of p) l'; moved = b || y } ≡ confirm_hop p m h.from.0 h.step h.way (record { table = table_in (counts_of p) l; moved = b })
hop_moved p m h words c l l' y hop w e j b =
    let s = table_in (counts_of p) l in
    ap (λ c. record { table = table_in c l'; moved = b || y }) (sym e)
    ∙ moved_is c h.to.0 (moved_by words m h (table_in c l)) l l' y j b
    ∙ ap (λ c. confirm_at h.to.0 (moved_by words m h (table_in c l)) (record { table = table_in c l; moved = b })) e
    ∙ ap₂ (λ n w. confirm_at n (moved_at (at m n) (after w h.way h.step (at m h.from.0)) (after w h.way h.step (at s h.from.0)) (at s n)) (record { table = s; moved = b })) hop.lands w

pub confirm_idle : (p : Prog) (m : Table) (n : ℕ) (i : Step) (w : Way) (c : Confirming) → Idle i w → confirm_hop p m n i w c ≡ c
confirm_idle p m n i w c e =
    let to = lands n i w in
    let here = at c.table to in
    let same : moved_at (at m to) (after (words_of p i) w i (at m n)) (after (words_of p i) w i (at c.table n)) here ≡ here = ap (λ a. moved_at (at m to) a (after (words_of p i) w i (at c.table n)) here) (after_idle (words_of p i) i w (at m n) e) ∙ no_made (at m to) (after (words_of p i) w i (at c.table n)) here in
    ap (λ a. confirm_at to a c) same ∙ ap₂ (λ t y. record { table = t; moved = y }) (set-get_or c.table to never) (ap (λ y. c.moved || y) (wider_self here) ∙ or-false c.moved)

-- one more sweep, at the end
sweeps_suc : (k : ℕ) (p : Prog) (m s : Table) → sweeps_of (suc k) p m s ≡ (confirm_sweep p m (sweeps_of k p m s)).table
sweeps_suc zero p m s = refl
sweeps_suc (suc k) p m s = sweeps_suc k p m (confirm_sweep p m s).table

pub sweeps_more : (k : ℕ) (p : Prog) (m s : Table) → sweeps_of (k + 1) p m s ≡ (confirm_sweep p m (sweeps_of k p m s)).table
sweeps_more k p m s = let next : k + 1 ≡ suc k = omega arith in ap (λ j. sweeps_of j p m s) next ∙ sweeps_suc k p m s

-- what follows of a guess from whether it is reached
pub confirm_says : (s : List ℤ) (p : Prog) (t m : Table) (r : Confirmed) → Program s p → r.yes ≡ reached t m (sweeps_of r.sweeps p m t) → ConfirmSays p t m r
confirm_says s p t m r is e =
    let confirms : r.yes ≡ true → Confirms p t m r.sweeps = λ y. true-T (reached t m (sweeps_of r.sweeps p m t)) (sym e ∙ y) in
    record {
      exact = e;
      confirms = confirms;
      sound = λ y h. guess_sound s p t m r.sweeps is h (confirms y);
      no_more = λ y h. guess_no_more s p t m r.sweeps is h (confirms y);
      way = λ n w. cond_both r.yes m t (Leads p (n + r.sweeps)) (λ y. confirmed r.sweeps w (confirms y)) (λ y. way_spent p n r.sweeps t w);
    }
