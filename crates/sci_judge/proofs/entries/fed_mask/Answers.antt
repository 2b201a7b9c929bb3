use Rattle.std.proofs.Common.{ap}
use Rattle.sci_forms.specs.declared.spec.Spec.{Spec}
use Rattle.sci_judge.proofs.MaskBits.{fed_bits}
use Rattle.sci_judge.proofs.entries.fed_mask.Goals as goal

pub returns : goal.returns
returns c =
    fed_bits c.args.net.now c.args.block c.loop-at.mask c.loop-at.at c.spec.result.now.evtin c.args.feed c.well_formed-2.ensures
    c.requires c.loop-at.invariant (ap (λ (s : Spec). s.evtin) c.spec.ensures.value) c.loop-at-test.false
