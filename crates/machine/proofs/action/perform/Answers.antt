use Rattle.std.proofs.Common.{◌≡◌, ◌^◌, ◌<◌, List, Bool, ℤ, refl, ◌∙◌, subst, ap₂, w64, to_z, of_z}
use borrow.Author.Rules.{sfits_of}
use lib.Signed.{mag}
use Rattle.std.proofs.lemmas.Int.{to_z-of_z}
use Rattle.program.specs.declared.Step.{Step}
use Rattle.program.specs.Program.{Prog}
use Rattle.program.specs.Runs.{index_of}
use Rattle.machine.specs.declared.cursor.Cursor.{Cursor}
use Rattle.machine.specs.Acting.{Ready}
use Rattle.machine.proofs.Arms.{no_room, too_many, loads_there, by_load, stores_there, by_store}
use Rattle.machine.proofs.action.perform.Goals as goal

-- the value of an operand, as it is passed on
passed : {z v : ℤ} → mag z < 2 ^ 63 → z ≡ v → to_z w64 (of_z w64 z) ≡ v
passed {z} l e = to_z-of_z w64 z (sfits_of l) ∙ e

ready : {p : Prog} {c : Cursor} {st vs m q o : List ℤ} {sure : Bool} {i j : Step} → i ≡ j → Ready p c st vs m q o sure i → Ready p c st vs m q o sure j
ready {p} {c} {st} {vs} {m} {q} {o} {sure} e = subst (Ready p c st vs m q o sure) e

pub load-number-requires : goal.load-number-requires
load-number-requires c =
    let k = ready c.in-Load.is c.requires in
    let h = loads_there c.rows.ensures k in
    record { stands = record { there = h.row; begun = h.begun; start = h.start; fits = λ sure. ap₂ index_of h.long (passed c.value-in-Load.type_inv c.value-in-Load.ensures) ∙ k.passes sure }; room = h.room }

pub store-requires : goal.store-requires
store-requires c =
    let k = ready c.in-Store.is c.requires in
    let h = stores_there c.rows.ensures k in
    record { stands = record { there = h.row; begun = h.begun; start = h.start; fits = λ sure. ap₂ index_of h.long (passed c.value-i.type_inv c.value-i.ensures) ∙ k.passes sure }; room = h.room }

pub returns-in-Load-clause-acts : goal.returns-in-Load-clause-acts
returns-in-Load-clause-acts c =
    let k = ready c.in-Load.is c.requires in
    let i = passed c.value-in-Load.type_inv c.value-in-Load.ensures in
    rw c.in-Load.is (by_load c.rows.ensures k c.assign-in-Load.result c.assign-in-Load.new.vars i c.load-number.ensures c.assign-in-Load.ensures c.settled-in-Load.ensures)

pub returns-in-Store-clause-acts : goal.returns-in-Store-clause-acts
returns-in-Store-clause-acts c =
    let k = ready c.in-Store.is c.requires in
    let i = passed c.value-i.type_inv c.value-i.ensures in
    let z = passed c.value-z.type_inv c.value-z.ensures in
    rw c.in-Store.is (by_store c.rows.ensures k c.store.result c.store.new.memory i z c.store.ensures c.settled-in-Store.ensures)

pub returns-in-None-clause-acts : goal.returns-in-None-clause-acts
returns-in-None-clause-acts c =
    let past = no_room c.args.cursor c.args.shown.now c.show.new.shown (to_z w64 (of_z w64 c.value-in-Show.result)) c.show.result c.show.ensures c.in-None.is in
    rw c.in-Show.is (_, refl, too_many c.args.cursor c.args.shown.now _ c.requires.count past)
