-- Growth that stays within a guess: s reaches b grown by d at each end, or the guess m where that is nearer.
use Rattle.std.specs.Prelude.{ℕ, T, [], ◌∷◌, pos, ◌+ℤ◌, ◌-ℤ◌}
use Rattle.number.specs.Numbers.{le_z, least, most}
use Rattle.program.specs.declared.Step.{Step}
use Rattle.interval.specs.declared.Range.{Range}
use Rattle.interval.specs.declared.Way.{Way}
use Rattle.interval.specs.Ranges.{Box, At, never, within, makes}
use Rattle.interval.specs.Laws.{Proper}
use Rattle.table.specs.Tables.{Table, at}

-- m contains b, and s reaches as far as b grown by d or as far as m
pub record Grows1 (d : ℕ) (b m s : Range) : Type 0 where
  pub lo_in : T (le_z m.lo b.lo)
  pub hi_in : T (le_z b.hi m.hi)
  pub lo_grows : T (le_z s.lo (most (b.lo -ℤ pos d) m.lo))
  pub hi_grows : T (le_z (least (b.hi +ℤ pos d) m.hi) s.hi)

-- boxes of the same length
abbrev pub Grows : ℕ → Box → Box → Box → Type 0
Grows d [] [] [] = Unit {0}
Grows d [] [] (v ∷ s) = ⊥
Grows d [] (q ∷ m) s = ⊥
Grows d (r ∷ b) [] s = ⊥
Grows d (r ∷ b) (q ∷ m) [] = ⊥
Grows d (r ∷ b) (q ∷ m) (v ∷ s) = Grows1 d r q v × Grows d b m s

abbrev pub GrowsAt : ℕ → At → At → At → Type 0
GrowsAt d never m s = Unit {0}
GrowsAt d (within b) never s = ⊥
GrowsAt d (within b) (within m) never = ⊥
GrowsAt d (within b) (within m) (within s) = Grows d b m s

abbrev pub GrowsT : ℕ → Table → Table → Table → Type 0
GrowsT d t m s = (n : ℕ) → GrowsAt d (at t n) (at m n) (at s n)

-- a step carries growth on undiminished
abbrev pub SteadyGrowth : Type 0
SteadyGrowth = (n : ℕ) (w : Way) (i : Step) (d : ℕ) (b m s : Box) → Proper b → Grows d b m s → GrowsAt d (makes n w i b) (makes n w i m) (makes n w i s)
