-- What looking whether a guess is reached goes by.
use Rattle.std.proofs.Common.{◌≡◌, ℕ, ◌+◌, ◌<◌, ◌≤◌, true, ◌&&◌, length, drop, refl}
use Rattle.std.proofs.lemmas.List.{drop_all, drop_more}
use Rattle.interval.specs.Ranges.{never}
use Rattle.table.specs.Tables.{Table, at}
use Rattle.table.proofs.Rows.{length-table_of}
use Rattle.fixpoint.specs.Confirming.{reached_at, reached}
use Rattle.fixpoint.proofs.Places.{place_at, row_within}

-- one more place
pub place_more : (n : ℕ) (t m s : Table) → n < length t → n < length m → n < length s → reached (drop n t) (drop n m) (drop n s) ≡ (reached_at (at t n) (at m n) (at s n) && reached (drop (n + 1) t) (drop (n + 1) m) (drop (n + 1) s))
place_more n t m s l lm ls = rw (drop_more t n never l, drop_more m n never lm, drop_more s n never ls) refl

pub place_done : (n : ℕ) (t m s : Table) → length t ≤ n → length m ≤ n → length s ≤ n → reached (drop n t) (drop n m) (drop n s) ≡ true
place_done n t m s l lm ls = rw (drop_all n t l, drop_all n m lm, drop_all n s ls) refl

pub ruleset reaches = (place_at, row_within, length-table_of, place_more, place_done)
