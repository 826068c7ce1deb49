-- The worked loop.
use Rattle.std.proofs.Common.{◌≡◌, ℕ, zero, suc, [], ◌∷◌, Some, refl, subst, arith}
use Rattle.std.specs.List.{slice_get, AllByRecursion}
use Rattle.program.specs.declared.Step.{Step}
use Rattle.program.specs.declared.Step.TheVariants.{Go}
use Rattle.interval.specs.Ranges.{Box, within}
use Rattle.interval.specs.Laws.{LongAt}
use Rattle.table.specs.Tables.{Table, at, leads, Carried}
use Rattle.table.specs.Cases.{fill, between, fill_table, Worked}

-- the step and the box of a place are those that stand there
here : (n : ℕ) (i j : Step) (b c : Box) → Some j ≡ Some i → within c ≡ within b → Carried fill_table (leads fill n c j) → Carried fill_table (leads fill n b i)
here n i j b c e f h =
    let step : j ≡ i = cc in
    let box : c ≡ b = cc in
    subst (λ i. Carried fill_table (leads fill n b i)) step (subst (λ b. Carried fill_table (leads fill n b j)) box h)

carried : (n : ℕ) (i : Step) (b : Box) → slice_get fill.code n ≡ Some i → at fill_table n ≡ within b → Carried fill_table (leads fill n b i)
carried zero i b e f = here 0 i _ b _ e f ((tt, tt), ((tt, tt), tt))
carried (suc zero) i b e f = here 1 i _ b _ e f (tt, (tt, tt))
carried (suc (suc zero)) i b e f = here 2 i _ b _ e f (tt, ((tt, tt), tt))
carried (suc (suc (suc zero))) i b e f = here 3 i _ b _ e f (tt, ((tt, tt), tt))
carried (suc (suc (suc (suc zero)))) i b e f = here 4 i _ b _ e f ((tt, tt), (tt, tt))
carried (suc (suc (suc (suc (suc n))))) i b e f = absurd (let z : ◌≡◌ {A = ℕ} 0 1 = cc in omega arith)

long_at : (k : ℕ) (t : Table) (n : ℕ) → AllByRecursion (LongAt k) t → LongAt k (at t n)
long_at k [] n h = tt
long_at k (a ∷ t) zero h = h.0
long_at k (a ∷ t) (suc n) h = long_at k t n h.1

pub worked : Worked
worked = record {
  numbers = refl;
  program = record { rows = refl; fine = tt };
  holds = record {
    long = refl;
    start = (tt, tt);
    steps = carried;
    full = λ n b e. subst (LongAt 1) e (long_at 1 fill_table n (refl, (refl, (refl, (refl, (refl, (tt, tt)))))));
  };
  less = refl;
  not_less = refl;
  more = λ h. h.0;
  store_licensed = refl;
  add_licensed = refl;
  stops = λ asked. (_, refl);
  goes_on = λ asked. (_, refl);
  no_tests = λ asked. refl;
  too_narrow = λ h. (h.steps 4 (Go (record { 0 = 0 })) (between 1 8) refl refl).0.0;
}
