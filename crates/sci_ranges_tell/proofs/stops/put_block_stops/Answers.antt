use Rattle.std.proofs.Common.{rules, ap, ◌++◌, ◌∙◌}
use Rattle.sci_base.specs.declared.observation.StopWord.TheVariants.{Overflow, Zero, Input}
use Rattle.sci_forms.specs.declared.spec.Spec.{Spec}
use Rattle.sci_forms.specs.Form.{is_sensor}
use Rattle.sci_io.proofs.Advance.{then_writes, stopped, same_text}
use Rattle.sci_ranges_text.specs.Text.{stop_line}
use Rattle.sci_ranges_find.specs.View.{ranges_of}
use Rattle.sci_ranges_tell.specs.Told.{plain_table, listed_line}
use Rattle.sci_ranges_tell.proofs.stops.put_block_stops.Goals as goal

pub returns-in_err-put_stop : goal.returns-in_err-put_stop
returns-in_err-put_stop g c =
    let t = plain_table c.args.net.now (ranges_of c.args.table.now) in
    let b = c.args.block in
    stopped (stop_line t b Input) (stop_line t b Overflow ++ stop_line t b Zero) c.put_stop.result c.from_residual.result _ _ c.in_err-put_stop.was (search rules)
    (same_text (ap (listed_line b Input) (c.is_sensor.ensures ∙ ap (λ (s : Spec). is_sensor s.kind) c.spec.ensures.value)) c.put_stop.ensures)

pub returns : goal.returns
returns g c =
    let t = plain_table c.args.net.now (ranges_of c.args.table.now) in
    let b = c.args.block in
    then_writes (stop_line t b Input) (stop_line t b Overflow ++ stop_line t b Zero) c.put_stop.result c.put_faults.result _ c.in_ok-put_stop.was
    (same_text (ap (listed_line b Input) (c.is_sensor.ensures ∙ ap (λ (s : Spec). is_sensor s.kind) c.spec.ensures.value)) c.put_stop.ensures)
    c.put_faults.ensures
