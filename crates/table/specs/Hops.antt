-- A hop is a step with one of the two ways out of it.
use Rattle.std.specs.Prelude.{◌≡◌, ℕ, ◌+◌, ◌<◌, ◌≤◌, List, [], ◌∷◌, ◌++◌, length, Some, None, Option}
use Rattle.std.specs.List.{slice_get}
use Rattle.program.specs.declared.Place.{Place}
use Rattle.program.specs.declared.Step.{Step}
use Rattle.program.specs.declared.Step.TheVariants.{Set, Add, Sub, Mul, Load, Store, Ask, Show, Go, Less, Stop}
use Rattle.program.specs.Program.{Prog, Ahead}
use Rattle.interval.specs.declared.Way.{Way}
use Rattle.interval.specs.declared.Way.TheVariants.{Jump, Next}
use Rattle.table.specs.declared.hops.Hop.{Hop}
use Rattle.table.specs.Tables.{target}

-- the place to which a hop leads
abbrev pub lands : ℕ → Step → Way → ℕ
lands n i Jump = target i
lands n i Next = n + 1

abbrev pub hop : ℕ → Step → Way → Hop
hop n i w = record { from = record { 0 = n }; to = record { 0 = lands n i w }; step = i; way = w }

-- The hops of a step at the n-th place, but for ways that it hasn't, by which nothing comes; `stop` has one all the same. Those of
-- steps from that place on; and of a program.
abbrev pub ways : ℕ → Step → List Hop
ways n (Set x e) = hop n (Set x e) Next ∷ []
ways n (Add x e f) = hop n (Add x e f) Next ∷ []
ways n (Sub x e f) = hop n (Sub x e f) Next ∷ []
ways n (Mul x c e) = hop n (Mul x c e) Next ∷ []
ways n (Load x a e) = hop n (Load x a e) Next ∷ []
ways n (Store a e f) = hop n (Store a e f) Next ∷ []
ways n (Ask x) = hop n (Ask x) Next ∷ []
ways n (Show e) = hop n (Show e) Next ∷ []
ways n (Go t) = hop n (Go t) Jump ∷ []
ways n (Less e f t) = hop n (Less e f t) Jump ∷ hop n (Less e f t) Next ∷ []
ways n Stop = hop n Stop Next ∷ []

abbrev pub hops_from : ℕ → List Step → List Hop
hops_from n [] = []
hops_from n (i ∷ is) = ways n i ++ hops_from (n + 1) is

abbrev pub hops_of : Prog → List Hop
hops_of p = hops_from 0 p.code

-- a hop of a program
pub record IsHop (p : Prog) (h : Hop) : Type 0 where
  pub here : slice_get p.code h.from.0 ≡ Some h.step
  pub from : h.from.0 < length p.code
  pub to : h.to.0 ≤ length p.code
  pub lands : h.to.0 ≡ lands h.from.0 h.step h.way

-- what is left of a step that is begun and of those behind it
abbrev pub hops_left : Option (Place × Step) → Ahead → List Hop
hops_left None a = hops_from a.place a.steps
hops_left (Some x) a = hop x.0.0 x.1 Next ∷ hops_from a.place a.steps

abbrev pub FewLeft : Option (Place × Step) → Ahead → Type 0
FewLeft None a = a.place + length a.steps ≤ 4096
FewLeft (Some x) a = (x.0.0 < 4096) × (a.place + length a.steps ≤ 4096)

-- these hops, each done to what the last one left
abbrev pub through : {A : Type 0} → (ℕ → Step → Way → A → A) → List Hop → A → A
through f [] a = a
through f (h ∷ hs) a = through f hs (f h.from.0 h.step h.way a)
