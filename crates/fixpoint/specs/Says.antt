-- What holds of least tables, of going round to them, and of guesses.
use Rattle.std.specs.Prelude.{◌≡◌, ℕ, ◌<◌, ◌≤◌, true, false, T, ◌↔◌, List, replicate, ℤ, Some}
use Rattle.std.specs.List.{slice_get}
use Rattle.program.specs.declared.Step.{Step}
use Rattle.program.specs.Program.{Prog}
use Rattle.program.specs.Rows.{Program}
use Rattle.interval.specs.declared.Way.{Way}
use Rattle.interval.specs.Ranges.{At, within, AtLeast}
use Rattle.interval.specs.Laws.{anys}
use Rattle.table.specs.Tables.{Table, at}
use Rattle.table.specs.Cases.{fill, fill_table}
use Rattle.fixpoint.specs.Least.{Least, Sound, HasLeast, OneLeast, LeastInBits, LeastSound}
use Rattle.fixpoint.specs.Rounds.{covers, start, Round, join_into, round_hop, round, rounds, room}
use Rattle.fixpoint.specs.Growth.{SteadyGrowth}
use Rattle.fixpoint.specs.Confirming.{GuessOver, GuessRight}
use Rattle.fixpoint.specs.Needed.{Needed}
use Rattle.fixpoint.specs.Ways.{GuessSound, GuessNoMore, WaySound, WayLast, WayEnds}

-- the test says whether one knows at least as much as another
abbrev pub CoversIs : Type 0
CoversIs = (a c : At) → T (covers a c) ↔ AtLeast a c

-- what lies inside what is there changes nothing
abbrev pub CoveredStays : Type 0
CoveredStays = (n : ℕ) (made : At) (r : Round) → T (covers made (at r.table n)) → join_into n made r ≡ r

abbrev pub StartSound : Type 0
StartSound = (p : Prog) → Sound p (start p)

abbrev pub HopSound : Type 0
HopSound = (s : List ℤ) (p : Prog) (n : ℕ) (i : Step) (w : Way) (r : Round) → Program s p → slice_get p.code n ≡ Some i → Sound p r.table → Sound p (round_hop p n i w r).table

abbrev pub RoundSound : Type 0
RoundSound = (s : List ℤ) (p : Prog) (t : Table) → Program s p → Sound p t → Sound p (round p t).table

-- a round that changes nothing has come to the least table
abbrev pub RoundSame : Type 0
RoundSame = (p : Prog) (t : Table) → (round p t).changed ≡ false → (round p t).table ≡ t

abbrev pub RoundLast : Type 0
RoundLast = (p : Prog) (t : Table) → Sound p t → (round p t).changed ≡ false → Least p t

-- one that changes something leaves less room, and none leaves more
abbrev pub RoundLowers : Type 0
RoundLowers = (s : List ℤ) (p : Prog) (t : Table) → Program s p → Sound p t → (round p t).changed ≡ true → room p (round p t).table < room p t

abbrev pub RoundNoMore : Type 0
RoundNoMore = (s : List ℤ) (p : Prog) (t : Table) → Program s p → Sound p t → room p (round p t).table ≤ room p t

-- the worked loop: knowing nothing holds and is not the least table; nine rounds come to that
pub record LeastWorked : Type 0 where
  pub not_nothing : Least fill (replicate 6 (within (anys 1))) → ⊥
  pub nine : rounds 9 fill (start fill) ≡ fill_table
  pub last : (round fill fill_table).changed ≡ false
  pub least : Least fill fill_table

pub record LeastParts : Type 0 where
  pub has_least : HasLeast
  pub one_least : OneLeast
  pub least_in_bits : LeastInBits
  pub least_sound : LeastSound
  pub covers_is : CoversIs
  pub covered_stays : CoveredStays
  pub start_sound : StartSound
  pub hop_sound : HopSound
  pub round_sound : RoundSound
  pub round_same : RoundSame
  pub round_last : RoundLast
  pub round_lowers : RoundLowers
  pub round_no_more : RoundNoMore
  pub steady_growth : SteadyGrowth
  pub guess_over : GuessOver
  pub guess_right : GuessRight
  pub guess_sound : GuessSound
  pub guess_no_more : GuessNoMore
  pub way_sound : WaySound
  pub way_last : WayLast
  pub way_ends : WayEnds
  pub worked : LeastWorked
  pub needed : Needed
