use Rattle.std.proofs.Common.{◌≡◌, ap, refl, sym, ◌∙◌}
use Rattle.sci_forms.specs.Form.{is_sensor}
use Rattle.sci_net.specs.Parts.{spec_of}
use Rattle.sci_store.specs.declared.seats.Seat.{Seat}
use Rattle.sci_store.proofs.Updating.{block_stepped, sensor_moves, others_stay, sensor_stateless, stepped_without_state}
use Rattle.sci_store.proofs.store.Store.update.Given.{Over}
use Rattle.sci_store.proofs.store.Store.update.Goals as goal
use Rattle.sci_store.proofs.store.Store.update.Goals.{After-is_sensor}

sensor_is : (g : Over) (c : After-is_sensor g) → c.is_sensor.result ≡ is_sensor (spec_of c.args.frame.now.net c.args.block).kind
sensor_is g c =
    c.is_sensor.ensures ∙ ap is_sensor (ap (λ (s : Seat). s.kind) c.seat-seat.ensures ∙ (c.well_formed-2.ensures.seated c.args.block c.requires.block).kind)

pub go_on-requires-clause-sensed : goal.go_on-requires-clause-sensed
go_on-requires-clause-sensed g c = c.requires.sensed (sym (sensor_is g (goal.at.go_on-requires-clause-sensed g c).After-is_sensor) ∙ c.if-is_sensor.true)

pub returns-then-is_sensor : goal.returns-then-is_sensor
returns-then-is_sensor g c =
    let at = (goal.at.returns-then-is_sensor g c).After-is_sensor in
    let f = c.args.frame.now in
    let on = sym (sensor_is g at) ∙ c.if-is_sensor.true in
    block_stepped f c.args.block c.args.self.now c.args.self.now _ _ _
    (stepped_without_state f c.args.self.now _ c.args.block c.requires.seated (sensor_stateless (spec_of f.net c.args.block).kind on) c.requires.state)
    (c.go_on.ensures ∙ sensor_moves f c.args.self.now c.args.block _ on refl)

pub returns-else-is_sensor : goal.returns-else-is_sensor
returns-else-is_sensor g c =
    let at = (goal.at.returns-else-is_sensor g c).After-is_sensor in
    let f = c.args.frame.now in
    let off = sym (sensor_is g at) ∙ c.if-is_sensor.false in
    block_stepped f c.args.block c.args.self.now c.update_state.new.self c.update_state.new.self _ _ c.update_state.ensures (others_stay f c.update_state.new.self c.args.block off)
