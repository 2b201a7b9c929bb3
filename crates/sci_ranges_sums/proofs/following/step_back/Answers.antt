use Rattle.std.proofs.Common.{sym, subst, ◌∙◌}
use Rattle.sci_net.specs.declared.Wire.{Wire}
use Rattle.sci_net.specs.Parts.{IsBlock}
use Rattle.sci_ranges_marks.specs.View.{marks_of}
use Rattle.sci_ranges_sums.proofs.Stepped.{shrinking_input, step_on, step_off}
use Rattle.sci_ranges_sums.proofs.following.step_back.Goals as goal
use Rattle.sci_ranges_sums.proofs.following.step_back.Goals.{After-shrinks_along}

pub wire-requires-clause-port_most : goal.wire-requires-clause-port_most
wire-requires-clause-port_most c =
    (shrinking_input c.args.net.now (marks_of c.args.marks.now) c.args.block c.args.wire c.well_formed-2.ensures c.requires (sym c.shrinks_along.ensures ∙ c.if-shrinks_along.true)).most

pub returns-then-shrinks_along-clause-value : goal.returns-then-shrinks_along-clause-value
returns-then-shrinks_along-clause-value c =
    c.wire.ensures ∙ step_on c.args.net.now (marks_of c.args.marks.now) c.args.block c.args.wire (sym c.shrinks_along.ensures ∙ c.if-shrinks_along.true)

pub returns-then-shrinks_along-clause-lead : goal.returns-then-shrinks_along-clause-lead
returns-then-shrinks_along-clause-lead c =
    let n = c.args.net.now in
    let inside = shrinking_input n (marks_of c.args.marks.now) c.args.block c.args.wire c.well_formed-2.ensures c.requires (sym c.shrinks_along.ensures ∙ c.if-shrinks_along.true) in
    subst (λ (w : Wire). IsBlock n w.block) (sym c.wire.ensures) (c.well_formed-2.ensures.wired.wires_lead c.args.wire.block 1 inside).block

pub returns-else-shrinks_along-clause-value : goal.returns-else-shrinks_along-clause-value
returns-else-shrinks_along-clause-value c =
    step_off c.args.net.now (marks_of c.args.marks.now) c.args.block c.args.wire (sym c.shrinks_along.ensures ∙ c.if-shrinks_along.false)
