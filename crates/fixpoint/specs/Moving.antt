-- Confirming in lent numbers: what a hop moves, and what confirming promises.
use Rattle.std.specs.Prelude.{◌≡◌, ℕ, ◌+◌, ◌≤◌, Bool, true, cond, List, ℤ, slice_set}
use Rattle.program.specs.declared.Counts.{Counts}
use Rattle.program.specs.Program.{Prog, counts_of}
use Rattle.interval.specs.Ranges.{At}
use Rattle.table.specs.declared.Hop.{Hop}
use Rattle.table.specs.Tables.{Table, at}
use Rattle.fixpoint.specs.declared.guess.Confirmed.{Confirmed}
use Rattle.fixpoint.specs.Hops.{after}
use Rattle.fixpoint.specs.Least.{Sound}
use Rattle.fixpoint.specs.Rounds.{room}
use Rattle.fixpoint.specs.Confirming.{moved_at, wider_at, sweeps_of, reached, Confirms}
use Rattle.fixpoint.specs.Ways.{Leads}
use Rattle.fixpoint.specs.Joining.{table_in}

-- the n-th place is now a, and y says whether an end moved
pub record Moved (c : Counts) (n : ℕ) (a : At) (l l' : List ℤ) (y : Bool) : Type 0 where
  pub table : table_in c l' ≡ slice_set (table_in c l) n a
  pub moved : y ≡ wider_at a (at (table_in c l) n)

-- what a hop of a step of an array with so many words leaves of the place to which it leads
abbrev pub moved_by : ℕ → Table → Hop → Table → At
moved_by words m h s = moved_at (at m h.to.0) (after words h.way h.step (at m h.from.0)) (after words h.way h.step (at s h.from.0)) (at s h.to.0)

-- What was answered of the guess m over t: whether it is confirmed, and after how many sweeps that was clear.
pub record ConfirmSays (p : Prog) (t m : Table) (r : Confirmed) : Type 0 where
  pub exact : r.yes ≡ reached t m (sweeps_of r.sweeps p m t)
  pub confirms : r.yes ≡ true → Confirms p t m r.sweeps
  pub sound : r.yes ≡ true → Sound p t → Sound p m
  pub no_more : r.yes ≡ true → Sound p t → room p m ≤ room p t
  pub way : (n : ℕ) → Leads p n t → Leads p (n + r.sweeps) (cond r.yes m t)

pub record ConfirmPost (p : Prog) (l g : List ℤ) (limit : ℕ) (r : Confirmed) : Type 0 where
  pub says : ConfirmSays p (table_in (counts_of p) l) (table_in (counts_of p) g) r
  pub few : r.sweeps ≤ limit
