use Rattle.std.proofs.Common.{rules, ◌≡◌, arith}
use Rattle.sci_forms.specs.Ports.{total}
use Rattle.sci_infer.proofs.Sums.{block_most, elements_from}
use Rattle.sci_infer.proofs.broken.all_elements.Goals as goal

pub total-requires : goal.total-requires
total-requires c =
    omega (arith, block_most c.args.specs.now c.loop-spec.spec-index c.spec-item.result c.loop-spec-test.true c.spec-item.is c.requires.small c.requires.few_outs)

pub overflow_add-sum : goal.overflow_add-sum
overflow_add-sum c =
    let most = block_most c.args.specs.now c.loop-spec.spec-index c.spec-item.result c.loop-spec-test.true c.spec-item.is c.requires.small c.requires.few_outs in
    let is : c.from-sum.result ≡ total c.spec-item.result.outs = search rules in
    omega (arith, is, most, c.loop-spec.invariant.most, c.loop-spec-test.true, c.requires.few)

pub loop-spec-preserved : goal.loop-spec-preserved
loop-spec-preserved c =
    let more = elements_from c.args.specs.now c.loop-spec.spec-index c.spec-item.result c.loop-spec-test.true c.spec-item.is in
    let most = block_most c.args.specs.now c.loop-spec.spec-index c.spec-item.result c.loop-spec-test.true c.spec-item.is c.requires.small c.requires.few_outs in
    let is : c.from-sum.result ≡ total c.spec-item.result.outs = search rules in
    record {
      rest = omega (arith, more, is, c.loop-spec.invariant.rest);
      most = omega (arith, is, most, c.loop-spec.invariant.most);
    }
