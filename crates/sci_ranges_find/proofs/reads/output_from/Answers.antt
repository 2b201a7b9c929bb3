use Rattle.std.proofs.Common.{◌-◌, length, ap, ◌∙◌, arith}
use Rattle.sci_forms.specs.declared.spec.Spec.{Spec}
use Rattle.sci_forms.specs.Ports.{before, total}
use Rattle.sci_ranges_find.proofs.Counted.{outs_small}
use Rattle.sci_ranges_find.proofs.reads.output_from.Goals as goal

pub before-requires-clause-within : goal.before-requires-clause-within
before-requires-clause-within c = let same = ap (λ (s : Spec). length s.outs) c.spec.ensures.value in omega (arith, same, c.requires.least, c.requires.most)

pub before-requires-clause-small : goal.before-requires-clause-small
before-requires-clause-small c =
    let same = ap (λ (s : Spec). total s.outs) c.spec.ensures.value in
    let small = outs_small c.args.net.now c.args.wire.block c.well_formed-2.ensures c.requires.block in
    omega (arith, same, small)

pub returns : goal.returns
returns c = c.before-2.ensures ∙ ap (λ (s : Spec). before s.outs (c.args.wire.port - 1)) c.spec.ensures.value
