use Rattle.std.proofs.Common.{◌≡◌, arith, w64, SFits, rules}
use Rattle.std.proofs.lemmas.Int.{to_z-of_z}
use Rattle.std.proofs.lemmas.Result.{err_from_is_err_and, MatchResult-weaker}
use Rattle.text.specs.Numbers.{refused}
use Rattle.text.proofs.Laws.{laws}
use Rattle.text.proofs.Progress.{sofar_none, sofar_more, sofar_all, refuses_full, refuses_bad, takes_one}
use Rattle.text.proofs.read.Goals as goal

pub loop-word-init : goal.loop-word-init
loop-word-init c = rw (c.into_iter-word-iterator.ensures.into_iter_gives, c.of-word-items.ensures) (sofar_none _ _)

pub returns-in_err-value : goal.returns-in_err-value
returns-in_err-value c =
    let old = rw c.in-Some.ensures.steps at c.loop-word.invariant in
    let p = err_from_is_err_and c.from_residual.result c.from_residual.ensures.1 in
    let why = MatchResult-weaker c.number.result {Q' = λ reason. c.in_err-value.field-0.0 ≡ refused c.args.text.now c.in-Some.word.start reason} c.in_err-value.ensures.cases (λ z k. k) (λ reason k. search rules) in
    rw (p.1, p.2) (record { answers = refuses_bad _ _ _ _ _ _ old c.number.result c.number.ensures _ why; parts = laws })

pub returns-then-count-numbers : goal.returns-then-count-numbers
returns-then-count-numbers c =
    let old = rw c.in-Some.ensures.steps at c.loop-word.invariant in
    let is = takes_one _ _ _ _ _ _ old c.number.result c.number.ensures _ c.in_ok-value.ensures.cases in
    record { answers = refuses_full _ _ _ _ _ _ old _ is c.if-count-numbers.true _ c.refused_at.ensures; parts = laws }

pub loop-word-preserved : goal.loop-word-preserved
loop-word-preserved c =
    let old = rw c.in-Some.ensures.steps at c.loop-word.invariant in
    let value = c.in_ok-value.value in
    let fits : SFits w64 value = search rules in
    let is = takes_one _ _ _ _ _ _ old c.number.result c.number.ensures _ c.in_ok-value.ensures.cases in
    rw (to_z-of_z w64 value fits) (sofar_more _ _ _ _ _ _ old value is (omega (arith, c.loop-word.invariant.few)))

pub returns : goal.returns
returns c = record { answers = sofar_all _ _ _ _ _ c.loop-word.invariant c.in-None.ensures.steps.0; parts = laws }
