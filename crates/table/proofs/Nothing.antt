-- Knowing nothing holds for every program.
use Rattle.std.proofs.Common.{◌≡◌, ℕ, zero, suc, ◌+◌, ◌<◌, T, leb, List, [], ◌∷◌, length, replicate, ℤ, Some, sym, ap, ◌∙◌, subst, arith}
use Rattle.std.specs.List.{slice_get}
use Rattle.std.proofs.lemmas.List.{length-replicate, get_or-replicate}
use Rattle.program.specs.declared.Step.{Step}
use Rattle.program.specs.Program.{Prog, counts_of}
use Rattle.program.specs.Rows.{Program, ok_i, ok_is, small}
use Rattle.program.proofs.Results.{both}
use Rattle.interval.specs.declared.Way.{Way}
use Rattle.interval.specs.declared.Way.TheVariants.{Jump, Next}
use Rattle.interval.specs.Ranges.{Box, At, never, within, makes, Inside, AtLeast}
use Rattle.interval.specs.Laws.{anys}
use Rattle.interval.proofs.Keeps.{makes-anys}
use Rattle.program.proofs.Within.{nth_within}
use Rattle.table.specs.Tables.{Table, at, zeros, words_of, target, leads, Carried}
use Rattle.table.specs.Says.{NothingHolds}
use Rattle.table.proofs.Steps.{target_there}

pub nth_there : {X : Type 0} (xs : List X) (n : ℕ) (x : X) → slice_get xs n ≡ Some x → n < length xs
nth_there = nth_within

-- what a step of a program names is there
pub nth-ok_i : (s : List ℤ) (p : Prog) (n : ℕ) (i : Step) → Program s p → slice_get p.code n ≡ Some i → T (ok_i (counts_of p) i)
nth-ok_i s p n i is e =
    let a = both (leb 1 p.vars) _ is.fine in
    let b = both (leb p.vars 64) _ a.1 in
    let c = both (leb (length p.arrays) 16) _ b.1 in
    let d = both (small p.arrays) _ c.1 in
    go p.code n (both (leb (length p.code) 4096) _ d.1).1 e
  where
    go : (is : List Step) (n : ℕ) → T (ok_is (counts_of p) is) → slice_get is n ≡ Some i → T (ok_i (counts_of p) i)
    go [] n h e = absurd (let z : ◌≡◌ {A = ℕ} 0 1 = cc in omega arith)
    go (j ∷ is) zero h e = let same : j ≡ i = cc in subst (λ j. T (ok_i (counts_of p) j)) same (both (ok_i (counts_of p) j) _ h).0
    go (j ∷ is) (suc n) h e = go is n (both (ok_i (counts_of p) j) _ h).1 e

-- a table with the same box everywhere
same_box : (m n : ℕ) (b c : Box) → at (replicate m (within c)) n ≡ within b → c ≡ b
same_box zero n b c e = absurd (let z : ◌≡◌ {A = ℕ} 0 1 = cc in omega arith)
same_box (suc m) zero b c e = cc
same_box (suc m) (suc n) b c e = same_box m n b c e

zeros-inside : (k : ℕ) → Inside (zeros k) (anys k)
zeros-inside zero = tt
zeros-inside (suc k) = (tt, zeros-inside k)

-- the table that knows nothing of k variables at m places
abbrev nothing : ℕ → ℕ → Table
nothing m k = replicate m (within (anys k))

nothing_at : (m k n : ℕ) (a : At) → n < m → AtLeast a (within (anys k)) → AtLeast a (at (nothing m k) n)
nothing_at m k n a l h = subst (AtLeast a) (sym (get_or-replicate m n (within (anys k)) never l)) h

carried : (s : List ℤ) (p : Prog) (n : ℕ) (i : Step) → Program s p → slice_get p.code n ≡ Some i → Carried (nothing (length p.code + 1) p.vars) (leads p n (anys p.vars) i)
carried s p n i is e = (way Jump (target i) (omega (arith, target_there (counts_of p) i ok)), (way Next (n + 1) (omega (arith, nth_within p.code n i e)), tt))
  where
    ok : T (ok_i (counts_of p) i)
    ok = nth-ok_i s p n i is e

    way : (w : Way) (to : ℕ) → to < length p.code + 1 → AtLeast (makes (words_of p i) w i (anys p.vars)) (at (nothing (length p.code + 1) p.vars) to)
    way w to l = nothing_at _ p.vars to (makes (words_of p i) w i (anys p.vars)) l (makes-anys (counts_of p) p.vars (words_of p i) w i ok)

pub nothing_holds : NothingHolds
nothing_holds s p is =
    let k = p.vars in
    let m = length p.code + 1 in
    record {
      long = length-replicate _ _;
      start = nothing_at m k 0 (within (zeros k)) (omega arith) (zeros-inside k);
      steps = λ n i b e f. subst (λ b. Carried (nothing m k) (leads p n b i)) (same_box m n b (anys k) f) (carried s p n i is e);
      full = λ n b f. ap length (sym (same_box m n b (anys k) f)) ∙ length-replicate _ _;
    }
