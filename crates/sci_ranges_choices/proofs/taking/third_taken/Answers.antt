use Rattle.std.proofs.Common.{false, ap, ◌∙◌, arith}
use Rattle.sci_net.specs.declared.Wire.{Wire}
use Rattle.sci_net.specs.Parts.{wire_of}
use Rattle.sci_ranges_choices.specs.View.{kept_by, by_added}
use Rattle.sci_ranges_choices.proofs.Inputs.{switch_input}
use Rattle.sci_ranges_choices.proofs.taking.third_taken.Goals as goal

pub wire-wire-requires-clause-port_most : goal.wire-wire-requires-clause-port_most
wire-wire-requires-clause-port_most c =
    (switch_input c.args.net.now c.args.block 3 c.well_formed-2.ensures c.requires.block c.requires.choice (omega arith) (omega arith)).most

pub returns : goal.returns
returns c =
    let n = c.args.net.now in
    let kept = c.kept_by-kept.ensures
    ∙ (ap (λ (w : Wire). kept_by n c.args.block false c.args.choice.now w c.range_at.result) c.wire-wire.ensures
    ∙ ap (kept_by n c.args.block false c.args.choice.now (wire_of n c.args.block 3)) c.range_at.ensures) in
    c.by_added.ensures ∙ ap (by_added n c.args.block false c.args.choice.now c.args.choice.now.third) kept
