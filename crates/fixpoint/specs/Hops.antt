-- A hop is a step with one of the two ways out of it; a sweep goes over all hops in the order of places.
use Rattle.std.specs.Prelude.{ℕ, ◌+◌, List, [], ◌∷◌}
use Rattle.program.specs.declared.Step.{Step}
use Rattle.program.specs.Program.{Prog}
use Rattle.interval.specs.declared.Way.{Way}
use Rattle.interval.specs.declared.Way.TheVariants.{Jump, Next}
use Rattle.interval.specs.Ranges.{At, never, within, makes}
use Rattle.table.specs.Tables.{Table, at, words_of}

-- what a step makes of what is known at its place
abbrev pub after : ℕ → Way → Step → At → At
after n w i never = never
after n w i (within b) = makes n w i b

-- what a hop from place n makes of a table
abbrev pub carries : Prog → Table → ℕ → Step → Way → At
carries p t n i w = after (words_of p i) w i (at t n)

-- all hops, each done to what the last one left
abbrev pub sweep_from : {A : Type 0} → (ℕ → Step → Way → A → A) → ℕ → List Step → A → A
sweep_from f n [] a = a
sweep_from f n (i ∷ is) a = sweep_from f (n + 1) is (f n i Next (f n i Jump a))

abbrev pub sweep : {A : Type 0} → (ℕ → Step → Way → A → A) → Prog → A → A
sweep f p a = sweep_from f 0 p.code a
