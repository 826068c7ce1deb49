-- Going round: each hop joins what it makes of the table into the place to which it leads.
use Rattle.std.specs.Prelude.{ℕ, zero, suc, ◌+◌, ◌*◌, ◌^◌, Bool, true, false, not, ◌&&◌, ◌||◌, [], ◌∷◌, length, replicate, ℤ, ◌-ℤ◌, slice_set, unsigned_abs}
use Rattle.number.specs.Numbers.{low, high}
use Rattle.program.specs.declared.Step.{Step}
use Rattle.program.specs.Program.{Prog}
use Rattle.interval.specs.declared.Range.{Range}
use Rattle.interval.specs.declared.Way.{Way}
use Rattle.interval.specs.Ranges.{Box, At, never, within, join, inside1}
use Rattle.table.specs.Tables.{Table, at, zeros}
use Rattle.table.specs.Hops.{lands}
use Rattle.fixpoint.specs.Hops.{carries, sweep}

-- the least box, and the least that can be known, that holds both
abbrev pub join_box : Box → Box → Box
join_box [] c = c
join_box (r ∷ b) [] = r ∷ b
join_box (r ∷ b) (q ∷ c) = join r q ∷ join_box b c

abbrev pub join_at : At → At → At
join_at never a = a
join_at (within b) never = within b
join_at (within b) (within c) = within (join_box b c)

-- whether the first lies inside the second
abbrev pub covers_box : Box → Box → Bool
covers_box [] [] = true
covers_box [] (q ∷ c) = false
covers_box (r ∷ b) [] = false
covers_box (r ∷ b) (q ∷ c) = inside1 r q && covers_box b c

abbrev pub covers : At → At → Bool
covers never a = true
covers (within b) never = false
covers (within b) (within c) = covers_box b c

-- all variables 0 at the first place, and nothing comes to the others
abbrev pub start : Prog → Table
start p = within (zeros p.vars) ∷ replicate (length p.code) never

-- a table under way, and whether anything has changed since the round began
pub record Round : Type 0 where
  pub table : Table
  pub changed : Bool

-- what is made is joined into a place
abbrev pub join_into : ℕ → At → Round → Round
join_into n made r = record {
  table = slice_set r.table n (join_at (at r.table n) made);
  changed = r.changed || not (covers made (at r.table n));
}

abbrev pub round_hop : Prog → ℕ → Step → Way → Round → Round
round_hop p n i w r = join_into (lands n i w) (carries p r.table n i w) r

abbrev pub round : Prog → Table → Round
round p t = sweep (round_hop p) p (record { table = t; changed = false })

abbrev pub rounds : ℕ → Prog → Table → Table
rounds zero p t = t
rounds (suc k) p t = rounds k p (round p t).table

-- The room left to grow: how far each end is from the end of 64 bits. A place that nothing comes to has more than all its ends can have.
abbrev pub distance : ℤ → ℤ → ℕ
distance a b = unsigned_abs (b -ℤ a)

abbrev pub room_range : Range → ℕ
room_range r = distance low r.lo + distance r.hi high

abbrev pub room_box : Box → ℕ
room_box [] = 0
room_box (r ∷ b) = room_range r + room_box b

abbrev pub room_at : ℕ → At → ℕ
room_at vars never = suc (vars * 2 ^ 65)
room_at vars (within b) = room_box b

abbrev pub room_table : ℕ → Table → ℕ
room_table vars [] = 0
room_table vars (a ∷ t) = room_at vars a + room_table vars t

abbrev pub room : Prog → Table → ℕ
room p t = room_table p.vars t
