-- What the hops of a program name is there.
use Rattle.std.proofs.Common.{◌≡◌, ℕ, ◌+◌, ◌<◌, ◌≤◌, List, [], ◌∷◌, ◌++◌, length, drop, refl, sym, ap, arith}
use Rattle.std.specs.List.{AllByRecursion}
use Rattle.program.specs.declared.Step.{Step}
use Rattle.program.specs.Program.{Prog, counts_of}
use Rattle.program.specs.Rows.{row_p, IsProgram}
use Rattle.program.proofs.Walk.{drop_nth}
use Rattle.program.specs.declared.Step.TheVariants.{Set, Add, Sub, Mul, Load, Store, Ask, Show, Go, Less, Stop}
use Rattle.interval.specs.declared.Way.{Way}
use Rattle.interval.specs.declared.Way.TheVariants.{Jump, Next}
use Rattle.interval.specs.Ranges.{Box, never, makes}
use Rattle.table.specs.declared.hops.Hop.{Hop}
use Rattle.table.specs.Tables.{target}
use Rattle.table.specs.Hops.{lands, hop, ways, hops_from, hops_of, through, IsHop}
use Rattle.table.proofs.Steps.{target_there}
use Rattle.table.proofs.Nothing.{nth-ok_i, nth_there}

ways_are : (P : Hop → Type 0) (n : ℕ) (i : Step) (hs : List Hop) → ((w : Way) → P (hop n i w)) → AllByRecursion P hs → AllByRecursion P (ways n i ++ hs)
ways_are P n (Set x e) hs f h = (f Next, h)
ways_are P n (Add x e g) hs f h = (f Next, h)
ways_are P n (Sub x e g) hs f h = (f Next, h)
ways_are P n (Mul x c e) hs f h = (f Next, h)
ways_are P n (Load x a e) hs f h = (f Next, h)
ways_are P n (Store a e g) hs f h = (f Next, h)
ways_are P n (Ask x) hs f h = (f Next, h)
ways_are P n (Show e) hs f h = (f Next, h)
ways_are P n (Go t) hs f h = (f Jump, h)
ways_are P n (Less e g t) hs f h = (f Jump, (f Next, h))
ways_are P n Stop hs f h = (f Next, h)

hops_from_are : (p : Prog) → IsProgram p → (n : ℕ) (is : List Step) → drop n p.code ≡ is → AllByRecursion (IsHop p) (hops_from n is)
hops_from_are p fine n [] e = tt
hops_from_are p fine n (i ∷ is) e =
    let u = drop_nth p.code n i is e in
    let there = nth_there p.code n i u.0 in
    ways_are (IsHop p) n i (hops_from (n + 1) is) (λ w. record { here = u.0; from = there; to = to w there (target_there (counts_of p) i (nth-ok_i (row_p p) p n i fine u.0)); lands = refl }) (hops_from_are p fine (n + 1) is u.1)
  where
    to : (w : Way) → n < length p.code → target i ≤ length p.code → lands n i w ≤ length p.code
    to Jump l t = t
    to Next l t = omega arith

pub hops_are : (p : Prog) → IsProgram p → AllByRecursion (IsHop p) (hops_of p)
hops_are p fine = hops_from_are p fine 0 p.code refl

-- A way that is left out makes nothing, whatever is known before it. What is done to each hop in turn, and to one that makes nothing
-- is nothing, is done to each step with both its ways.
abbrev pub Idle : Step → Way → Type 0
Idle i w = (n : ℕ) (b : Box) → makes n w i b ≡ never

module _ {A : Type 0} (f : ℕ → Step → Way → A → A) (idle : (n : ℕ) (i : Step) (w : Way) (a : A) → Idle i w → f n i w a ≡ a) where
  no_jump : (n : ℕ) (i : Step) (hs : List Hop) (a : A) → Idle i Jump → through f hs (f n i Next a) ≡ through f hs (f n i Next (f n i Jump a))
  no_jump n i hs a e = ap (λ a. through f hs (f n i Next a)) (sym (idle n i Jump a e))

  pub through_ways : (n : ℕ) (i : Step) (hs : List Hop) (a : A) → through f (ways n i ++ hs) a ≡ through f hs (f n i Next (f n i Jump a))
  through_ways n (Set x e) hs a = no_jump n (Set x e) hs a (λ n b. refl)
  through_ways n (Add x e g) hs a = no_jump n (Add x e g) hs a (λ n b. refl)
  through_ways n (Sub x e g) hs a = no_jump n (Sub x e g) hs a (λ n b. refl)
  through_ways n (Mul x c e) hs a = no_jump n (Mul x c e) hs a (λ n b. refl)
  through_ways n (Load x v e) hs a = no_jump n (Load x v e) hs a (λ n b. refl)
  through_ways n (Store v e g) hs a = no_jump n (Store v e g) hs a (λ n b. refl)
  through_ways n (Ask x) hs a = no_jump n (Ask x) hs a (λ n b. refl)
  through_ways n (Show e) hs a = no_jump n (Show e) hs a (λ n b. refl)
  through_ways n (Go t) hs a = ap (through f hs) (sym (idle n (Go t) Next (f n (Go t) Jump a) (λ n b. refl)))
  through_ways n (Less e g t) hs a = refl
  through_ways n Stop hs a = no_jump n Stop hs a (λ n b. refl)
