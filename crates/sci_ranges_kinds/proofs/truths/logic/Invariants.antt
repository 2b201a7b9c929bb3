use Rattle.std.proofs.Common.{◌≡◌, ◌+◌, ◌*◌, length, Some}
use Rattle.sci_forms.specs.Words.{param}
use Rattle.sci_ranges_base.specs.Intervals.{one}
use Rattle.sci_ranges_rules.specs.Words.{joins, if_so, allows}
use Rattle.sci_ranges_kinds.proofs.truths.logic.Given as goal

abbrev pub invariant-loop-row : goal.invariant-loop-row
invariant-loop-row l = l.all ≡ joins (λ r. if_so (allows l.ins (length l.spec.ins) r) (Some (one (param l.spec (r * length l.spec.outs + l.e))))) l.row
