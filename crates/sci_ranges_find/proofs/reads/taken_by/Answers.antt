use Rattle.std.proofs.Common.{◌≡◌, ◌&&◌, Bool, Some, sym, ap, subst, ◌∙◌}
use Rattle.sci_net.specs.Parts.{spec_of, wire_of}
use Rattle.sci_forms.specs.declared.spec.Spec.{Spec}
use Rattle.sci_forms.specs.Form.{is_sync}
use Rattle.sci_ranges_base.specs.declared.interval.Interval.{Interval}
use Rattle.sci_ranges_rules.specs.Rules.{taking}
use Rattle.sci_ranges_rows.specs.Tests.{is_under}
use Rattle.sci_ranges_marks.specs.View.{marks_of}
use Rattle.sci_ranges_find.specs.View.{decides_on, IsTaken}
use Rattle.sci_reaction.proofs.Lists.{and_both}
use Rattle.sci_ranges_pass.specs.Ranges.{same_wire}
use Rattle.sci_ranges_find.proofs.Entering.{taken_on, taken_off}
use Rattle.sci_ranges_find.proofs.Passing.{sync_block}
use Rattle.sci_ranges_find.proofs.reads.taken_by.Goals as goal
use Rattle.sci_ranges_find.proofs.reads.taken_by.Goals.{After-decides_on}

decided : (c : After-decides_on) → c.decides_on.result ≡ decides_on c.args.net.now c.args.branch.block (wire_of c.args.net.now c.args.block c.args.port)
decided c = c.decides_on.ensures ∙ ap (decides_on c.args.net.now c.args.branch.block) c.wire.ensures

pub returns-then-not-decides_on : goal.returns-then-not-decides_on
returns-then-not-decides_on c =
    let n = c.args.net.now in
    let m = marks_of c.args.marks.now in
    let off = sym (decided (goal.at.returns-then-not-decides_on c).After-decides_on) ∙ c.if-not-decides_on.true in
    taken_off n m c.args.branch c.args.block c.args.port (ap (λ (b : Bool). b && is_under m c.args.branch c.args.block) off)

pub returns-then-not-is_under : goal.returns-then-not-is_under
returns-then-not-is_under c =
    let n = c.args.net.now in
    let m = marks_of c.args.marks.now in
    let on = sym (decided (goal.at.returns-then-not-is_under c).After-decides_on) ∙ c.if-not-decides_on.false in
    taken_off n m c.args.branch c.args.block c.args.port
    (ap (λ (b : Bool). b && is_under m c.args.branch c.args.block) on ∙ (sym c.is_under.ensures ∙ c.if-not-is_under.true))

pub spec-requires-clause-least : goal.spec-requires-clause-least
spec-requires-clause-least c =
    let n = c.args.net.now in
    let on = sym (decided (goal.at.spec-requires-clause-least c).After-decides_on) ∙ c.if-not-decides_on.false in
    (sync_block n c.args.branch.block (and_both (is_sync (spec_of n c.args.branch.block).kind) (same_wire (wire_of n c.args.branch.block 1) (wire_of n c.args.block c.args.port)) on).0).least

pub spec-requires-clause-most : goal.spec-requires-clause-most
spec-requires-clause-most c =
    let n = c.args.net.now in
    let on = sym (decided (goal.at.spec-requires-clause-most c).After-decides_on) ∙ c.if-not-decides_on.false in
    (sync_block n c.args.branch.block (and_both (is_sync (spec_of n c.args.branch.block).kind) (same_wire (wire_of n c.args.branch.block 1) (wire_of n c.args.block c.args.port)) on).0).most

pub returns : goal.returns
returns c =
    let n = c.args.net.now in
    let m = marks_of c.args.marks.now in
    let on = sym (decided (goal.at.returns c).After-decides_on) ∙ c.if-not-decides_on.false in
    subst (λ (i : Interval). IsTaken n m c.args.block c.args.port (Some c.args.branch) (Some i)) (sym (c.taking.ensures ∙ ap (λ (s : Spec). taking s c.args.branch.port) c.spec.ensures.value))
    (taken_on n m c.args.branch c.args.block c.args.port on (sym c.is_under.ensures ∙ c.if-not-is_under.false))
