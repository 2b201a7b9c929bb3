use Rattle.std.proofs.Common.{◌∙◌, sym, ap}
use Rattle.sci_ranges_base.specs.Intervals.{whole}
use Rattle.sci_ranges_kinds.proofs.Dispatched.{other_taking}
use Rattle.sci_ranges_kinds.proofs.rules.taking.Goals as goal

pub returns-in_default : goal.returns-in_default
returns-in_default c =
    c.whole.ensures ∙ ap whole c.in_type-ty.ensures ∙ sym (other_taking c.args.spec.now.kind c.args.spec.now c.args.port c.in_default.not-IfThEl
    c.in_default.not-ESelect)
