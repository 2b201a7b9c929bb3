use Rattle.std.proofs.Common.{◌≡◌, arith, ap, ◌∙◌}
use Rattle.sci_forms.specs.Ports.{elements}
use Rattle.sci_forms.specs.Words.{size}
use Rattle.sci_forms.proofs.TestLemmas.{size_small}
use Rattle.sci_forms.proofs.spec.Spec.state_len.Goals as goal

pub overflow_cast-result : goal.overflow_cast-result
overflow_cast-result c =
    let few = size_small c.args.self.now c.requires in
    let same : c.elements.result ≡ size c.args.self.now = c.elements.ensures ∙ ap elements c.port.ensures in
    omega arith
