use Rattle.std.proofs.Common.{◌≡◌, true, ap, sym, ◌∙◌, arith}
use Rattle.sci_forms.specs.declared.spec.Spec.{Spec}
use Rattle.sci_forms.specs.Form.{is_sync}
use Rattle.sci_net.specs.Parts.{spec_of}
use Rattle.sci_ranges_find.proofs.Entering.{no_condition, past_condition}
use Rattle.sci_ranges_find.proofs.Passing.{one_goes_in}
use Rattle.sci_ranges_find.proofs.reads.decides_on.Goals as goal

pub returns-then-block-eq0 : goal.returns-then-block-eq0
returns-then-block-eq0 c = sym (no_condition c.args.net.now c.args.block c.args.wire c.if-block-eq0.true)

pub returns-then-block-len : goal.returns-then-block-len
returns-then-block-len c = sym (past_condition c.args.net.now c.args.block c.args.wire (omega (arith, c.if-block-len.true, c.len.ensures)))

pub wire-requires-clause-port_most : goal.wire-requires-clause-port_most
wire-requires-clause-port_most c =
    let sync : is_sync (spec_of c.args.net.now c.args.block).kind ≡ true = ap (λ (s : Spec). is_sync s.kind) (sym c.spec.ensures.value) ∙ (sym c.is_sync.ensures ∙ c.if-is_sync.true) in
    let one = one_goes_in c.args.net.now c.well_formed-2.ensures c.args.block (record { least = omega arith; most = omega (arith, c.len.ensures) }) sync in
    omega (arith, one.0)
