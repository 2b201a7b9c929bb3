use Rattle.std.proofs.Common.{◌+◌, ap, arith}
use Rattle.sci_forms.specs.declared.spec.Spec.{Spec}
use Rattle.sci_forms.specs.Ports.{total}
use Rattle.sci_ranges_find.proofs.Counted.{outs_small}
use Rattle.sci_ranges_find.proofs.first.first_shows.Goals as goal

pub elements_of-count-requires : goal.elements_of-count-requires
elements_of-count-requires c =
    let small = outs_small c.args.net.now (c.loop-block.block + 1) c.well_formed-2.ensures (record { least = omega arith; most = omega (arith, c.loop-block-test.true, c.len-block-end.ensures) }) in
    let same = ap (λ (s : Spec). total s.outs) c.spec.ensures.value in
    omega (arith, small, same)
