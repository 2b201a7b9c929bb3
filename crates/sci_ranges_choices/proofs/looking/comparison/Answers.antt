use Rattle.std.proofs.Common.{sym, subst, ◌∙◌, arith}
use Rattle.sci_net.specs.declared.Wire.{Wire}
use Rattle.sci_net.specs.Parts.{IsBlock}
use Rattle.sci_ranges_marks.specs.View.{marks_of}
use Rattle.sci_ranges_choices.proofs.Inputs.{switch_input}
use Rattle.sci_ranges_choices.proofs.Lookings.{comparison_on, comparison_off, compared_is}
use Rattle.sci_ranges_choices.proofs.looking.comparison.Goals as goal

pub wire-wire-requires-clause-port_most : goal.wire-wire-requires-clause-port_most
wire-wire-requires-clause-port_most c = (switch_input c.args.net.now c.args.block 2 c.well_formed-2.ensures c.requires.block c.requires.choice (omega arith) (omega arith)).most

pub is_compared-requires : goal.is_compared-requires
is_compared-requires c =
    let inside = switch_input c.args.net.now c.args.block 2 c.well_formed-2.ensures c.requires.block c.requires.choice (omega arith) (omega arith) in
    subst (λ (w : Wire). IsBlock c.args.net.now w.block) (sym c.wire-wire.ensures) (c.well_formed-2.ensures.wired.wires_lead c.args.block 2 inside).block

pub returns-then-is_compared-clause-value : goal.returns-then-is_compared-clause-value
returns-then-is_compared-clause-value c =
    comparison_on c.args.net.now (marks_of c.args.marks.now) c.args.block c.wire-wire.result c.wire-wire.ensures (sym c.is_compared.ensures ∙ c.if-is_compared.true)

pub returns-then-is_compared-clause-lead : goal.returns-then-is_compared-clause-lead
returns-then-is_compared-clause-lead c =
    let inside = switch_input c.args.net.now c.args.block 2 c.well_formed-2.ensures c.requires.block c.requires.choice (omega arith) (omega arith) in
    compared_is c.args.net.now (marks_of c.args.marks.now) c.args.block c.wire-wire.result
    (subst (λ (w : Wire). IsBlock c.args.net.now w.block) (sym c.wire-wire.ensures) (c.well_formed-2.ensures.wired.wires_lead c.args.block 2 inside).block)
    (sym c.is_compared.ensures ∙ c.if-is_compared.true)

pub returns-else-is_compared-clause-value : goal.returns-else-is_compared-clause-value
returns-else-is_compared-clause-value c =
    comparison_off c.args.net.now (marks_of c.args.marks.now) c.args.block c.wire-wire.result c.wire-wire.ensures (sym c.is_compared.ensures ∙ c.if-is_compared.false)
