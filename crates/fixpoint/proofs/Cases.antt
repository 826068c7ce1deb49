-- The worked loop.
use Rattle.std.proofs.Common.{◌≡◌, false, refl, subst}
use Rattle.program.specs.Rows.{row_p}
use Rattle.table.specs.Cases.{fill, fill_table}
use Rattle.table.proofs.Cases.{worked}
use Rattle.fixpoint.specs.Least.{Sound}
use Rattle.fixpoint.specs.Rounds.{start, round, rounds}
use Rattle.fixpoint.specs.Says.{LeastWorked}
use Rattle.fixpoint.proofs.Sweeps.{start_sound, rounds_sound, round_last}

nine : rounds 9 fill (start fill) ≡ fill_table
nine = refl

last : (round fill fill_table).changed ≡ false
last = refl

pub least_worked : LeastWorked
least_worked = record {
  not_nothing = λ h. worked.more (h.least fill_table worked.holds 0);
  nine = nine;
  last = last;
  least = round_last fill fill_table (subst (Sound fill) nine (rounds_sound (row_p fill) fill 9 (start fill) worked.program (start_sound fill))) last;
}
