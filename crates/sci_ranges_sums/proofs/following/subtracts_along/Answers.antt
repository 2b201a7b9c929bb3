use Rattle.std.proofs.Common.{◌≡◌, true, sym, ap, ◌∙◌, arith}
use Rattle.sci_net.specs.Parts.{spec_of}
use Rattle.sci_ranges_refined.specs.Sums.{takes_difference, subtracted}
use Rattle.sci_ranges_sums.proofs.Stepped.{subtracted_input}
use Rattle.sci_ranges_sums.proofs.following.subtracts_along.Goals as goal

pub wire-taken-requires-clause-port_most : goal.wire-taken-requires-clause-port_most
wire-taken-requires-clause-port_most c =
    let takes : takes_difference (spec_of c.args.net.now c.args.wire.block) ≡ true =
    ap takes_difference (sym c.spec-spec.ensures.value) ∙ (sym c.takes_difference.ensures ∙ c.if-not-takes_difference.false) in
    let inside = subtracted_input c.args.net.now c.args.wire.block c.requires takes in
    let same = c.subtracted-port.ensures ∙ ap subtracted c.spec-spec.ensures.value in
    omega (arith, inside.most, same)
