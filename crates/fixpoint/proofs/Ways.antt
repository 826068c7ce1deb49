-- A guess that is confirmed is sound, so the way to the least table is.
use Rattle.std.proofs.Common.{◌≡◌, ℕ, zero, suc, ◌+◌, T, List, [], ◌∷◌, ℤ, sym, ◌∙◌, subst, add-zero, arith}
use Rattle.program.specs.Program.{Prog}
use Rattle.program.specs.Rows.{Program}
use Rattle.interval.specs.declared.Range.{Range}
use Rattle.interval.specs.Ranges.{Box, At, never, within, some_left, inside1, Inside, AtLeast}
use Rattle.interval.specs.Laws.{Proper, Bits1, InBits, ProperAt, BitsAt}
use Rattle.interval.proofs.Order.{order}
use Rattle.interval.proofs.Monotone.{at_least_trans}
use Rattle.table.specs.Tables.{Table, at, zeros}
use Rattle.fixpoint.specs.Least.{Below, ProperT, BitsT}
use Rattle.fixpoint.specs.Ways.{Leads, begin, rounded, confirmed, spent, GuessSound, GuessNoMore, WaySound, WayLast}
use Rattle.fixpoint.proofs.Sweeps.{start_sound, round_sound, round_last}
use Rattle.fixpoint.proofs.Room.{no_more}
use Rattle.fixpoint.proofs.Leasts.{has_least, least_in_bits}
use Rattle.fixpoint.proofs.Guesses.{guess_over, guess_right}

-- what is proper and lies inside what is in 64 bits is in 64 bits
range_bits : (r q : Range) → T (some_left r) → T (inside1 r q) → Bits1 q → Bits1 r
range_bits r q h k l = (omega (arith, order), omega (arith, order))

box_bits : (b c : Box) → Proper b → Inside b c → InBits c → InBits b
box_bits [] c h k l = tt
box_bits (r ∷ b) [] h k l = absurd k
box_bits (r ∷ b) (q ∷ c) h k l = (range_bits r q h.0 k.0 l.0, box_bits b c h.1 k.1 l.1)

at_bits : (a c : At) → ProperAt a → AtLeast a c → BitsAt c → BitsAt a
at_bits never c h k l = tt
at_bits (within b) never h k l = absurd k
at_bits (within b) (within c) h k l = box_bits b c h k l

below_bits : (s : List ℤ) (p : Prog) (t : Table) → Program s p → ProperT t → Below p t → BitsT t
below_bits s p t is h k n =
    let l = has_least s p is in
    at_bits (at t n) (at l.0 n) (h n) (k l.0 l.1.holds n) (least_in_bits s p l.0 is l.1 n)

pub guess_sound : GuessSound
guess_sound s p t m k is h c =
    let over = guess_over p t m k c in
    let proper = over.proper h.proper in
    let below = guess_right p t m k h.proper c h.below in
    record {
      long = over.long ∙ h.long;
      full = λ n. over.full p.vars n (h.full n);
      below = below;
      proper = proper;
      bits = below_bits s p m is proper below;
      start = at_least_trans (within (zeros p.vars)) (at t 0) (at m 0) h.start (over.contains 0);
    }

pub guess_no_more : GuessNoMore
guess_no_more s p t m k is h c = no_more p t m h (guess_sound s p t m k is h c) (guess_over p t m k c).contains

pub way_sound : WaySound
way_sound s p n t is begin = start_sound p
way_sound s p n t is (rounded {t = u} w) = round_sound s p u is (way_sound s p _ u is w)
way_sound s p n t is (confirmed k {t = u} w c) = guess_sound s p u t k is (way_sound s p _ u is w) c
way_sound s p n t is (spent w) = way_sound s p _ t is w

pub way_last : WayLast
way_last s p n t is w e = round_last p t (way_sound s p n t is w) e

-- so many sweeps that are spent
pub way_spent : (p : Prog) (n k : ℕ) (t : Table) → Leads p n t → Leads p (n + k) t
way_spent p n zero t w = subst (λ m. Leads p m t) (sym (add-zero n)) w
way_spent p n (suc k) t w = let next : n + k + 1 ≡ n + suc k = omega arith in subst (λ m. Leads p m t) next (spent (way_spent p n k t w))
