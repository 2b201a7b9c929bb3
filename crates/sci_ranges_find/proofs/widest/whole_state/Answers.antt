use Rattle.std.proofs.Common.{◌∙◌, ap}
use Rattle.sci_forms.specs.Ports.{type_of}
use Rattle.sci_ranges_base.specs.Intervals.{whole}
use Rattle.sci_ranges_find.proofs.widest.whole_state.Goals as goal

pub returns : goal.returns
returns c = c.whole.ensures ∙ ap whole (c.kind_of_type.ensures ∙ ap type_of c.port.ensures)
