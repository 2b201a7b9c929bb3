use Rattle.std.proofs.Common.{◌∙◌, sym, ap, arith}
use Rattle.std.proofs.lemmas.List.{at_drop_all}
use Rattle.sci_forms.specs.Ports.{elements, type_of, type_at}
use Rattle.sci_ranges_kinds.proofs.Dispatched.{type_there, type_beyond}
use Rattle.sci_ranges_kinds.proofs.rules.type_at.Goals as goal

pub loop-k-preserved : goal.loop-k-preserved
loop-k-preserved c =
    let n = c.elements-elements.ensures ∙ ap elements c.port-port.ensures in
    rw n (c.loop-k.invariant ∙ type_beyond c.args.ports.now c.loop-k.k c.loop-k.left (omega arith) (omega (arith, n)))

pub returns-then-left-elements : goal.returns-then-left-elements
returns-then-left-elements c =
    let n = c.elements-elements.ensures ∙ ap elements c.port-port.ensures in
    c.kind_of_type.ensures ∙ ap type_of c.port-port.ensures
    ∙ sym (c.loop-k.invariant ∙ type_there c.args.ports.now c.loop-k.k c.loop-k.left (omega arith) (omega (arith, n)))

pub returns : goal.returns
returns c = sym (c.loop-k.invariant ∙ at_drop_all (λ qs. type_at qs c.loop-k.left) c.args.ports.now c.loop-k.k (omega arith))
