-- Confirming a guess m over a table t: sweeps move the ends of a table s, at first t, out towards m. If each end at which m is wider has moved
-- by 1 or reached m, every table that holds and contains t contains m.
use Rattle.std.specs.Prelude.{◌≡◌, ℕ, zero, suc, Bool, true, false, cond, not, ◌&&◌, ◌||◌, T, ◌↔◌, [], ◌∷◌, length, slice_set}
use Rattle.number.specs.Numbers.{le_z, less_z, least, most}
use Rattle.program.specs.declared.Step.{Step}
use Rattle.program.specs.Program.{Prog}
use Rattle.interval.specs.declared.Range.{Range}
use Rattle.interval.specs.declared.Way.{Way}
use Rattle.interval.specs.Ranges.{Box, At, never, within, inside1, AtLeast}
use Rattle.interval.specs.Laws.{LongAt}
use Rattle.table.specs.Tables.{Table, at, Holds}
use Rattle.table.specs.Hops.{lands}
use Rattle.fixpoint.specs.Hops.{carries, sweep}
use Rattle.fixpoint.specs.Least.{Below, ProperT}
use Rattle.fixpoint.specs.Growth.{GrowsT}

-- The range s where a hop lands, moved out to what the hop makes of its box, no further than the guess m. An end moves only if the hop makes of
-- the guess at least as much there as the guess has; ms and mm are what the hop makes of s's own box and of the guess.
abbrev pub moved1 : Range → Range → Range → Range → Range
moved1 m mm ms s = record {
  lo = cond (le_z mm.lo m.lo) (least s.lo (most ms.lo m.lo)) s.lo;
  hi = cond (le_z m.hi mm.hi) (most s.hi (least ms.hi m.hi)) s.hi;
}

abbrev pub moved_box : Box → Box → Box → Box → Box
moved_box m mm ms [] = []
moved_box [] mm ms (v ∷ s) = v ∷ s
moved_box (q ∷ m) [] ms (v ∷ s) = v ∷ s
moved_box (q ∷ m) (r ∷ mm) [] (v ∷ s) = v ∷ s
moved_box (q ∷ m) (r ∷ mm) (o ∷ ms) (v ∷ s) = moved1 q r o v ∷ moved_box m mm ms s

abbrev pub moved_at : At → At → At → At → At
moved_at m mm ms never = never
moved_at never mm ms (within s) = within s
moved_at (within m) never ms (within s) = within s
moved_at (within m) (within mm) never (within s) = within s
moved_at (within m) (within mm) (within ms) (within s) = within (moved_box m mm ms s)

-- whether a range of the first is not inside that of the second
abbrev pub wider_box : Box → Box → Bool
wider_box [] s = false
wider_box (r ∷ b) [] = false
wider_box (r ∷ b) (q ∷ s) = not (inside1 r q) || wider_box b s

abbrev pub wider_at : At → At → Bool
wider_at never s = false
wider_at (within b) never = false
wider_at (within b) (within s) = wider_box b s

-- the table so far, and whether an end has moved in this sweep
pub record Confirming : Type 0 where
  pub table : Table
  pub moved : Bool

abbrev pub confirm_at : ℕ → At → Confirming → Confirming
confirm_at n a c = record { table = slice_set c.table n a; moved = c.moved || wider_at a (at c.table n) }

abbrev pub confirm_hop : Prog → Table → ℕ → Step → Way → Confirming → Confirming
confirm_hop p m n i w c = confirm_at (lands n i w) (moved_at (at m (lands n i w)) (carries p m n i w) (carries p c.table n i w) (at c.table (lands n i w))) c

abbrev pub confirm_sweep : Prog → Table → Table → Confirming
confirm_sweep p m s = sweep (confirm_hop p m) p (record { table = s; moved = false })

-- so many sweeps
abbrev pub sweeps_of : ℕ → Prog → Table → Table → Table
sweeps_of zero p m s = s
sweeps_of (suc k) p m s = sweeps_of k p m (confirm_sweep p m s).table

-- m contains t, and each end of s has reached m's, or moved out from t's
abbrev pub reached1 : Range → Range → Range → Bool
reached1 b m s = inside1 b m && ((le_z s.lo m.lo || less_z s.lo b.lo) && (le_z m.hi s.hi || less_z b.hi s.hi))

abbrev pub reached_box : Box → Box → Box → Bool
reached_box [] [] [] = true
reached_box [] [] (v ∷ s) = false
reached_box [] (q ∷ m) s = false
reached_box (r ∷ b) [] s = false
reached_box (r ∷ b) (q ∷ m) [] = false
reached_box (r ∷ b) (q ∷ m) (v ∷ s) = reached1 r q v && reached_box b m s

-- never at the same places
abbrev pub reached_at : At → At → At → Bool
reached_at never never never = true
reached_at never never (within s) = false
reached_at never (within m) s = false
reached_at (within b) never s = false
reached_at (within b) (within m) never = false
reached_at (within b) (within m) (within s) = reached_box b m s

abbrev pub reached : Table → Table → Table → Bool
reached [] [] [] = true
reached [] [] (v ∷ s) = false
reached [] (q ∷ m) s = false
reached (a ∷ t) [] s = false
reached (a ∷ t) (q ∷ m) [] = false
reached (a ∷ t) (q ∷ m) (v ∷ s) = reached_at a q v && reached t m s

-- k sweeps confirm the guess m over t
abbrev pub Confirms : Prog → Table → Table → ℕ → Type 0
Confirms p t m k = T (reached t m (sweeps_of k p m t))

-- what holds and grows from t does from s
abbrev pub Follows : Prog → Table → Table → Table → Type 0
Follows p t m s = (d : ℕ) (u : Table) → Holds p u → GrowsT d t m u → GrowsT d s m u

-- m is never where t is, and its boxes are as long and contain t's
pub record Over (t m : Table) : Type 0 where
  pub long : length m ≡ length t
  pub same : (n : ℕ) → (at m n ≡ never) ↔ (at t n ≡ never)
  pub contains : (n : ℕ) → AtLeast (at t n) (at m n)
  pub full : (k n : ℕ) → LongAt k (at t n) → LongAt k (at m n)
  pub proper : ProperT t → ProperT m

abbrev pub GuessOver : Type 0
GuessOver = (p : Prog) (t m : Table) (k : ℕ) → Confirms p t m k → Over t m

-- a guess that is confirmed is right
abbrev pub GuessRight : Type 0
GuessRight = (p : Prog) (t m : Table) (k : ℕ) → ProperT t → Confirms p t m k → Below p t → Below p m
