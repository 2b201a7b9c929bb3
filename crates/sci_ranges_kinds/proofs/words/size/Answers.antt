use Rattle.std.proofs.Common.{◌≡◌, ◌∙◌, ap, arith}
use Rattle.sci_forms.specs.Ports.{elements}
use Rattle.sci_forms.specs.Words.{size}
use Rattle.sci_forms.proofs.TestLemmas.{size_small}
use Rattle.sci_ranges_kinds.proofs.words.size.Goals as goal

pub overflow_cast-result : goal.overflow_cast-result
overflow_cast-result c =
    let few = size_small c.args.spec.now c.requires in
    let e : c.elements.result ≡ size c.args.spec.now = c.elements.ensures ∙ ap elements c.port.ensures in
    omega (arith, e, few)

pub returns-clause-few : goal.returns-clause-few
returns-clause-few c =
    let few = size_small c.args.spec.now c.requires in
    let e : c.elements.result ≡ size c.args.spec.now = c.elements.ensures ∙ ap elements c.port.ensures in
    omega (arith, e, few)
