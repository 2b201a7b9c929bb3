use Rattle.std.proofs.Common.{◌∙◌, Some, pos, refl, ap}
use Rattle.std.specs.Prelude.{int_lt, int_le}
use Rattle.sci_ranges_base.specs.declared.interval.Interval.{Interval}
use Rattle.sci_ranges_base.specs.Intervals.{one, join, range_at}
use Rattle.sci_ranges_base.specs.Cells.{valued}
use Rattle.sci_ranges_rules.specs.Words.{if_so}
use Rattle.sci_ranges_kinds.proofs.choices.gated_delay.Goals as goal

pub returns : goal.returns
returns c =
    let gate = c.in_ok-gate.gate in
    let value = c.in_ok-gate.ensures ∙ ap (range_at c.args.ins.now) c.size-n.ensures.value in
    let f = λ (k : Interval). join (if_so (int_lt (pos 0) gate.greatest) (Some k)) (if_so (int_le gate.least (pos 0)) (Some (one (pos 0)))) in
    rw (← value) (c.valued.ensures ∙ ap valued (c.gated-all.ensures ∙ ap f c.state_range-kept.ensures))

pub returns-in_err-gate : goal.returns-in_err-gate
returns-in_err-gate c =
    let value = c.in_err-gate.ensures ∙ ap (range_at c.args.ins.now) c.size-n.ensures.value in
    rw (c.from_residual.ensures, ← value) refl
