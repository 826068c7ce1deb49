-- Every program has one least table: going round from the start comes to it, since the room left runs out.
use Rattle.std.proofs.Common.{◌≡◌, ℕ, zero, suc, ◌+◌, ◌≤◌, Bool, true, false, List, ℤ, sym, refl, ◌∙◌, subst, arith}
use Rattle.std.proofs.lemmas.List.{ext_get_or}
use Rattle.program.specs.Program.{Prog}
use Rattle.program.specs.Rows.{Program}
use Rattle.interval.specs.Ranges.{never}
use Rattle.table.specs.Tables.{Table, at}
use Rattle.fixpoint.specs.Least.{Least, Sound, HasLeast, OneLeast, LeastInBits, LeastSound}
use Rattle.fixpoint.specs.Rounds.{start, round, room}
use Rattle.fixpoint.specs.Ways.{Leads, begin, rounded, WayEnds}
use Rattle.fixpoint.proofs.Joins.{at_same}
use Rattle.fixpoint.proofs.Sweeps.{start_sound, round_sound, round_last}
use Rattle.fixpoint.proofs.Room.{round_lowers}

-- where a way has come to
record Reached (p : Prog) : Type 0 where
  pub sweeps : ℕ
  pub table : Table
  pub leads : Leads p sweeps table
  pub sound : Sound p table

-- and where it ends
record Ended (p : Prog) : Type 0 where
  pub reached : Reached p
  pub last : (round p reached.table).changed ≡ false

-- a round changes nothing, or goes on
or_round : (p : Prog) (r : Reached p) → ((round p r.table).changed ≡ true → Ended p) → Ended p
or_round p r more = by (round p r.table).changed refl
  where
    by : (c : Bool) → (round p r.table).changed ≡ c → Ended p
    by true e = more e
    by false e = record { reached = r; last = e }

abbrev once_more : (s : List ℤ) (p : Prog) → Program s p → Reached p → Reached p
once_more s p is r = record { sweeps = r.sweeps + 1; table = (round p r.table).table; leads = rounded r.leads; sound = round_sound s p r.table is r.sound }

find : (s : List ℤ) (p : Prog) → Program s p → (fuel : ℕ) (r : Reached p) → room p r.table ≤ fuel → Ended p
find s p is zero r l = or_round p r (λ e. absurd (let k = round_lowers s p r.table is r.sound e in omega arith))
find s p is (suc fuel) r l = or_round p r (λ e. let k = round_lowers s p r.table is r.sound e in find s p is fuel (once_more s p is r) (omega arith))

found : (s : List ℤ) (p : Prog) → Program s p → Ended p
found s p is = find s p is (room p (start p)) (record { sweeps = 0; table = start p; leads = begin; sound = start_sound p }) (omega arith)

ended_least : (p : Prog) (e : Ended p) → Least p e.reached.table
ended_least p e = round_last p e.reached.table e.reached.sound e.last

pub has_least : HasLeast
has_least s p is = let f = found s p is in (f.reached.table, ended_least p f)

pub way_ends : WayEnds
way_ends s p is = let f = found s p is in (f.reached.sweeps, f.reached.table, f.reached.leads, f.last)

pub one_least : OneLeast
one_least p t u h k = ext_get_or never t u (h.holds.long ∙ sym k.holds.long) (λ n l. at_same (at t n) (at u n) (h.least u k.holds n) (k.least t h.holds n))

pub least_sound : LeastSound
least_sound s p t is h = let f = found s p is in subst (Sound p) (one_least p f.reached.table t (ended_least p f) h) f.reached.sound

pub least_in_bits : LeastInBits
least_in_bits s p t is h = (least_sound s p t is h).bits
