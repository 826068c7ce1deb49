use Rattle.std.proofs.Common.{◌≡◌, ◌+◌, length, sym, refl, ap, ◌∙◌, subst, arith}
use Rattle.std.proofs.lemmas.Option.{slice_get_past}
use Rattle.program.proofs.Within.{nth_within}
use Rattle.table.proofs.Nothing.{nth-ok_i}
use Rattle.machine.proofs.Marking.{length_marks}
use Rattle.interpreter.specs.declared.ran.Ran.TheVariants.{Stopped, Failed}
use Rattle.interpreter.specs.Ending.{Ends}
use Rattle.interpreter.proofs.Loop.{starts, stops, failed, behind, within_marks, begins, fetched, sure-passes, went, at_most_one}
use Rattle.interpreter.proofs.going.proceed.Goals as goal

pub loop-init : goal.loop-init
loop-init c = (
  omega arith,
  omega arith,
  omega arith,
  refl,
  λ t holds marked. starts c.args.program.now t c.args.asked.now c.args.vars.now c.args.memory.now c.args.shown.now c.requires.vars c.requires.memory c.requires.laid.vars c.requires.laid.memory,
)

pub mark_at-mark-requires : goal.mark_at-mark-requires
mark_at-mark-requires c =
    let found = c.requires.marked in
    let g = c.loop.invariant.4 found.0 found.1 found.2 in
    within_marks c.rows-rows.result.now c.args.marks.now c.args.program.now found.0 c.rows-rows.ensures found.2 c.loop.cursor.place g.place c.if-cursor-marks.false

pub fetch-step-requires : goal.fetch-step-requires
fetch-step-requires c =
    let found = c.requires.marked in
    let g = c.loop.invariant.4 found.0 found.1 found.2 in
    begins c.rows-rows.result.now c.args.marks.now c.args.program.now found.0 c.rows-rows.ensures found.2 c.loop.cursor.place g.place c.if-cursor-marks.false c.mark_at-mark.result.0 c.mark_at-mark.ensures c.offset.result c.offset.ensures

pub perform-requires : goal.perform-requires
perform-requires c =
    let s = c.rows-rows.result.now in
    let p = c.args.program.now in
    let is = c.rows-rows.ensures in
    let cursor = c.loop.cursor in
    let inv = c.loop.invariant in
    let i = c.fetch-step.result in
    let found = c.requires.marked in
    let t = found.0 in
    let g = inv.4 t found.1 found.2 in
    let u = fetched s c.args.marks.now p t is found.2 cursor.place g.place c.if-cursor-marks.false c.mark_at-mark.result.0 c.mark_at-mark.ensures c.offset.result c.offset.ensures i c.fetch-step.ensures c.is_sure-sure.result c.is_sure-sure.ensures in
    record {
      laid = record { starts = c.requires.laid.starts; vars = c.loop.auto.vars ∙ c.requires.laid.vars; memory = c.loop.auto.memory ∙ c.requires.laid.memory };
      here = nth_within p.code cursor.place i u.0;
      taken = inv.1;
      count = inv.2;
      names = nth-ok_i s p cursor.place i is u.0;
      passes = λ e. sure-passes s c.args.asked.now p t is found.1 c.requires.fit c.loop.counter cursor c.loop.vars c.loop.memory c.loop.shown c.loop.tests g i u.0 (sym u.1 ∙ e);
    }

pub loop-preserved : goal.loop-preserved
loop-preserved c =
    let s = c.rows-rows.result.now in
    let p = c.args.program.now in
    let is = c.rows-rows.ensures in
    let cursor = c.loop.cursor in
    let inv = c.loop.invariant in
    let i = c.fetch-step.result in
    let moved = c.in-On.ensures.moves in
    let one = at_most_one c.is_sure-sure.result in (
      omega (arith, inv.0, one, c.counted-tests.ensures),
      moved.taken,
      moved.count,
      moved.rest c.args.shown.now inv.3,
      λ t holds marked.
          let g = inv.4 t holds marked in
          let u = fetched s c.args.marks.now p t is marked cursor.place g.place c.if-cursor-marks.false c.mark_at-mark.result.0 c.mark_at-mark.ensures c.offset.result c.offset.ensures i c.fetch-step.ensures c.is_sure-sure.result c.is_sure-sure.ensures in
          let w = went s c.args.asked.now p t is holds c.requires.fit c.loop.counter cursor c.loop.vars c.loop.memory c.loop.shown c.loop.tests g i u.0 _ c.is_sure-sure.result c.counted-tests.result c.in-On.ensures.acts u.1 c.counted-tests.ensures in
          record { runs = w.0; tests = w.1; place = moved.place },
    )

pub returns-then-cursor-marks : goal.returns-then-cursor-marks
returns-then-cursor-marks c t holds marked =
    let p = c.args.program.now in
    let inv = c.loop.invariant in
    let g = inv.4 t holds marked in
    let long : length c.args.marks.now ≡ length p.code = ap length marked ∙ length_marks p t 0 _ p.code in
    let u = behind c.args.asked.now p t _ c.loop.cursor c.loop.vars c.loop.memory c.loop.shown c.loop.tests g (slice_get_past p.code c.loop.cursor.place (omega (arith, long, c.if-cursor-marks.true))) in
    stops p t c.args.asked.now c.args.steps c.args.shown.now c.loop.shown c.loop.cursor.count c.loop.tests _ _ (omega (arith, c.loop-test.true)) u.0 u.1 refl inv.2 inv.3

pub returns-in-Stopped : goal.returns-in-Stopped
returns-in-Stopped c t holds marked =
    let s = c.rows-rows.result.now in
    let q = c.args.asked.now in
    let p = c.args.program.now in
    let is = c.rows-rows.ensures in
    let cursor = c.loop.cursor in
    let o = c.loop.shown in
    let inv = c.loop.invariant in
    let i = c.fetch-step.result in
    let g = inv.4 t holds marked in
    let u = fetched s c.args.marks.now p t is marked cursor.place g.place c.if-cursor-marks.false c.mark_at-mark.result.0 c.mark_at-mark.ensures c.offset.result c.offset.ensures i c.fetch-step.ensures c.is_sure-sure.result c.is_sure-sure.ensures in
    let w = went s q p t is holds c.requires.fit c.loop.counter cursor c.loop.vars c.loop.memory o c.loop.tests g i u.0 _ c.is_sure-sure.result c.counted-tests.result c.in-Stopped.ensures.acts u.1 c.counted-tests.ensures in
    subst (λ o'. Ends p t q c.args.steps c.args.shown.now o' (Stopped cursor.count c.counted-tests.result)) (sym c.in-Stopped.ensures.moves) (stops p t q c.args.steps c.args.shown.now o cursor.count c.counted-tests.result (c.loop.counter + 1) _ (omega (arith, c.loop-test.true)) w.0 w.1 refl inv.2 inv.3)

pub returns-in-Failed : goal.returns-in-Failed
returns-in-Failed c t holds marked =
    let s = c.rows-rows.result.now in
    let q = c.args.asked.now in
    let p = c.args.program.now in
    let is = c.rows-rows.ensures in
    let cursor = c.loop.cursor in
    let o = c.loop.shown in
    let inv = c.loop.invariant in
    let i = c.fetch-step.result in
    let g = inv.4 t holds marked in
    let u = fetched s c.args.marks.now p t is marked cursor.place g.place c.if-cursor-marks.false c.mark_at-mark.result.0 c.mark_at-mark.ensures c.offset.result c.offset.ensures i c.fetch-step.ensures c.is_sure-sure.result c.is_sure-sure.ensures in
    let w = went s q p t is holds c.requires.fit c.loop.counter cursor c.loop.vars c.loop.memory o c.loop.tests g i u.0 _ c.is_sure-sure.result c.counted-tests.result c.in-Failed.ensures.acts u.1 c.counted-tests.ensures in
    subst (λ o'. Ends p t q c.args.steps c.args.shown.now o' (Failed cursor.place cursor.count c.counted-tests.result)) (sym c.in-Failed.ensures.moves) (failed p t q c.args.steps c.args.shown.now o cursor.count c.counted-tests.result (c.loop.counter + 1) cursor.place _ (omega (arith, c.loop-test.true)) w.0 w.1 refl inv.2 inv.3)

pub returns-in-Full : goal.returns-in-Full
returns-in-Full c t holds marked =
    let s = c.rows-rows.result.now in
    let q = c.args.asked.now in
    let p = c.args.program.now in
    let is = c.rows-rows.ensures in
    let cursor = c.loop.cursor in
    let o = c.loop.shown in
    let inv = c.loop.invariant in
    let i = c.fetch-step.result in
    let g = inv.4 t holds marked in
    let u = fetched s c.args.marks.now p t is marked cursor.place g.place c.if-cursor-marks.false c.mark_at-mark.result.0 c.mark_at-mark.ensures c.offset.result c.offset.ensures i c.fetch-step.ensures c.is_sure-sure.result c.is_sure-sure.ensures in
    let over = c.in-Full.ensures.acts in
    let w = went s q p t is holds c.requires.fit c.loop.counter cursor c.loop.vars c.loop.memory o c.loop.tests g i u.0 _ c.is_sure-sure.result c.counted-tests.result over.1 u.1 c.counted-tests.ensures in
    (c.loop.counter + 1, over.0, omega (arith, c.loop-test.true), w.0, omega (arith, over.2, c.loop.auto.shown))
