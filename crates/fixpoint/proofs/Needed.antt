-- The loop of two steps.
use Rattle.std.proofs.Common.{ℕ, zero, suc, [], ◌∷◌, refl, subst, arith}
use Rattle.program.specs.Rows.{row_p, Program}
use Rattle.interval.specs.declared.Way.TheVariants.{Jump, Next}
use Rattle.interval.specs.Ranges.{At, never, within, AtLeast}
use Rattle.interval.specs.Laws.{ProperAt, LongAt}
use Rattle.interval.proofs.Order.{order}
use Rattle.interval.proofs.Monotone.{at_least_trans}
use Rattle.table.specs.Tables.{at, zeros, Holds}
use Rattle.table.specs.Rows.{row_t}
use Rattle.table.specs.Cases.{between}
use Rattle.table.specs.Says.{Full}
use Rattle.table.proofs.Rows.{one_table}
use Rattle.table.proofs.Looks.{looking_once}
use Rattle.fixpoint.specs.Hops.{after}
use Rattle.fixpoint.specs.Growth.{GrowsT}
use Rattle.fixpoint.specs.Least.{Below}
use Rattle.fixpoint.specs.Confirming.{sweeps_of}
use Rattle.fixpoint.specs.Needed.{one, go, back, early, least_table, behind, Needed}
use Rattle.fixpoint.proofs.Hops.{at_all, holds_carries}
use Rattle.fixpoint.proofs.Guesses.{guess_over}

program : Program (row_p back) back
program = record { rows = refl; fine = tt }

-- by looking at each step once
holds : Holds back least_table
holds =
    let found = (looking_once (row_p back) (row_t 1 least_table) back program).0 refl in
    let full : Full back least_table = record { long = refl; full = λ n b e. subst (LongAt 1) e (at_all (LongAt 1) least_table tt (refl, (refl, (tt, tt))) n) } in
    subst (Holds back) (one_table back found.0 least_table (record { long = found.2.long; full = found.2.full }) full found.1) found.2

-- what a table that holds must contain at the two steps
two : (a b : At) → AtLeast (within (zeros 1)) a → AtLeast (after 0 Next one a) b → AtLeast (after 0 Jump go b) a → AtLeast (within (between 0 1)) a × AtLeast (within (between 1 1)) b
two never b h k l = absurd h
two (within []) b h k l = absurd h
two (within (r ∷ q ∷ c)) b h k l = absurd h.1
two (within (r ∷ [])) never h k l = absurd k
two (within (r ∷ [])) (within []) h k l = absurd k
two (within (r ∷ [])) (within (q ∷ p ∷ c)) h k l = absurd k.1
two (within (r ∷ [])) (within (q ∷ [])) h k l = let x = h.0 in let y = k.0 in let z = l.0 in ((omega (arith, order), tt), (y, tt))

below : Below back least_table
below u h n = by n
  where
    found : AtLeast (within (between 0 1)) (at u 0) × AtLeast (within (between 1 1)) (at u 1)
    found = two (at u 0) (at u 1) h.start (holds_carries back u 0 one Next h refl) (holds_carries back u 1 go Jump h refl)

    by : (n : ℕ) → AtLeast (at least_table n) (at u n)
    by zero = found.0
    by (suc zero) = found.1
    by (suc (suc zero)) = tt
    by (suc (suc (suc n))) = tt

grown : GrowsT 1 early behind (sweeps_of 1 back behind early)
grown zero = (record { lo_in = tt; hi_in = tt; lo_grows = tt; hi_grows = tt }, tt)
grown (suc zero) = (record { lo_in = tt; hi_in = tt; lo_grows = tt; hi_grows = tt }, tt)
grown (suc (suc zero)) = tt
grown (suc (suc (suc n))) = tt

early_below : Below back early
early_below u h n = at_least_trans (at early n) (at least_table n) (at u n) ((guess_over back early least_table 1 tt).contains n) (below u h n)

pub needed : Needed
needed = record {
  program = program;
  holds = holds;
  below = below;
  early_below = early_below;
  proper = at_all ProperAt early tt ((tt, tt), ((tt, tt), (tt, tt)));
  right = tt;
  moved = tt;
  wrong_wide = λ h. (h least_table holds 0).0;
  grown = grown;
  wrong_behind = λ h. h least_table holds 2;
}
