use Rattle.std.proofs.Common.{◌≡◌, true, false, ◌∷◌, [], Some, sym, ap, ◌∙◌, rules}
use Rattle.sci_forms.specs.declared.spec.Spec.{Spec}
use Rattle.sci_forms.specs.Form.{is_sensor}
use Rattle.sci_net.specs.Parts.{spec_of}
use Rattle.sci_ranges_base.specs.declared.interval.Interval.{Interval}
use Rattle.sci_ranges.specs.Columns.{sensed_range}
use Rattle.sci_ranges_find.specs.View.{ranges_of}
use Rattle.sci_ranges_find.proofs.Readings.{entered_ports, entered_sensor}
use Rattle.sci_ranges_find.proofs.reads.entered.Goals as goal

pub returns-then-is_sensor : goal.returns-then-is_sensor
returns-then-is_sensor c =
    let n = c.args.net.now in
    let on : is_sensor (spec_of n c.args.block).kind ≡ true = ap (λ (s : Spec). is_sensor s.kind) (sym c.spec-spec.ensures.value) ∙ (sym c.is_sensor.ensures ∙ c.if-is_sensor.true) in
    c.in_ok-value.ensures.items_if_clones_equal (search rules)
    ∙ (ap (λ (i : Interval). Some i ∷ []) (c.sensed-range.ensures ∙ ap (sensed_range c.args.inputs.now) c.spec-spec.ensures.value)
    ∙ entered_sensor n c.args.inputs.now (ranges_of c.args.table.now) c.args.readings.now c.args.block on)

pub returns : goal.returns
returns c =
    let n = c.args.net.now in
    let off : is_sensor (spec_of n c.args.block).kind ≡ false = ap (λ (s : Spec). is_sensor s.kind) (sym c.spec-spec.ensures.value) ∙ (sym c.is_sensor.ensures ∙ c.if-is_sensor.false) in
    c.in_ok-ports.ensures ∙ entered_ports n c.args.inputs.now (ranges_of c.args.table.now) c.args.readings.now c.args.block off
