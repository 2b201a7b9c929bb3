use Rattle.std.proofs.Common.{rules, ◌≤◌, length, ap, sym, ◌∙◌, arith, w64, FitsSigned, true≢false}
use Rattle.std.proofs.lemmas.Int.{to_z-of_z}
use Rattle.sci_forms.specs.Form.{is_sensor}
use Rattle.sci_net.proofs.TypedSpecs.{sensor_kind}
use Rattle.sci_store.specs.Store.{Standing}
use Rattle.sci_store.proofs.Evaluating.{enters_none, enters_one, enters_all}
use Rattle.sci_store.proofs.store.Store.enter.Goals as goal

pub returns-in_err-self-inside-clause-entered : goal.returns-in_err-self-inside-clause-entered
returns-in_err-self-inside-clause-entered c =
    enters_none c.args.frame.now c.args.inputs.now c.args.self.now c.args.block c.well_formed-2.ensures c.requires.block c.seat.result c.seat.ensures
    c.args.self.now.room c.from_residual.result (sensor_kind c.seat.result.kind (sym c.is_sensor.ensures ∙ c.if-is_sensor.true)) c.in_err-self-inside.ensures.value
    c.from_residual.ensures

pub index_mut-requires : goal.index_mut-requires
index_mut-requires c =
    let long = c.self.inside.ins.ok.0 in
    let same = ap (λ (s : Standing). length s.room) c.self.view_is in
    omega (arith, long, same, c.requires.store.room, c.well_formed-2.ensures.layout.some)

pub returns-then-is_sensor-clause-entered : goal.returns-then-is_sensor-clause-entered
returns-then-is_sensor-clause-entered c =
    let v = c.in_ok-self-inside.field-0 in
    let fits : FitsSigned w64 v = search rules in
    let same = ap (λ (s : Standing). length s.room) c.self.view_is in
    let long : 1 ≤ length c.self.inside.ins.items = omega (arith, same, c.requires.store.room, c.well_formed-2.ensures.layout.some) in
    enters_one c.args.frame.now c.args.inputs.now c.args.self.now c.args.block c.well_formed-2.ensures c.requires.block c.seat.result c.seat.ensures
    c.self.inside.ins.items v _ (sensor_kind c.seat.result.kind (sym c.is_sensor.ensures ∙ c.if-is_sensor.true)) c.in_ok-self-inside.ensures.value (to_z-of_z w64 v fits) long

pub returns-clause-entered : goal.returns-clause-entered
returns-clause-entered c =
    enters_all c.args.frame.now c.args.inputs.now c.args.self.now c.args.block c.well_formed-2.ensures c.requires.block c.seat.result c.seat.ensures
    c.gather.new.self.room c.gather.result (λ same. true≢false (ap is_sensor (sym same) ∙ (sym c.is_sensor.ensures ∙ c.if-is_sensor.false)))
    c.gather.ensures.within c.gather.ensures.gathered
