use Rattle.std.proofs.Common.{ap, arith}
use Rattle.sci_forms.specs.declared.spec.Spec.{Spec}
use Rattle.sci_forms.specs.Ports.{total}
use Rattle.sci_ranges_find.proofs.Counted.{outs_small}
use Rattle.sci_ranges_find.proofs.search.Search.narrow_shows.Goals as goal

pub elements_of-e-end-requires : goal.elements_of-e-end-requires
elements_of-e-end-requires c =
    let small = outs_small c.args.net.now c.args.block c.well_formed-2.ensures c.requires.block in
    let same = ap (λ (s : Spec). total s.outs) c.spec-spec.ensures.value in
    omega (arith, small, same)
