use Rattle.std.proofs.Common.{◌≡◌, ◌≤◌, length, w64, ℤ, pos, negsuc, sym, ap, ◌∙◌, rules, arith, subst}
use Rattle.std.specs.Prelude.{◌<ℤ◌}
use Rattle.std.proofs.lemmas.Int.{to_z-of_z}
use Rattle.sci_forms.specs.Typed.{typed}
use Rattle.sci_net.specs.Parts.{IsActivationOutput, numbered}
use Rattle.sci_run.specs.Programs.{firing_of}
use Rattle.sci_ranges_marks.specs.First.{firing_at}
use Rattle.sci_ranges_marks.proofs.FirstEvents.{port_at, numbered_is, firing_small}
use Rattle.sci_ranges_marks.proofs.first_event.firing.Goals.{In-Port, After-get}
use Rattle.sci_ranges_marks.proofs.first_event.firing.Goals as goal

output : (c : In-Port) → IsActivationOutput c.args.net.now c.in-Port.q.block c.in-Port.q.port
output c = (port_at c.args.net.now c.args.source c.in-Port.q c.requires c.in-Port.ensures)

pub spec-requires-clause-least : goal.spec-requires-clause-least
spec-requires-clause-least c = (output (goal.at.spec-requires-clause-least c).In-Port).block.least

pub spec-requires-clause-most : goal.spec-requires-clause-most
spec-requires-clause-most c = (output (goal.at.spec-requires-clause-most c).In-Port).block.most

pub overflow_sub-q : goal.overflow_sub-q
overflow_sub-q c = (output (goal.at.overflow_sub-q c).In-Port).least

pub get-requires : goal.get-requires
get-requires c = let p = (output (goal.at.get-requires c).In-Port).least in let t = c.if-q-len.true in omega (arith, c.len.ensures.value)

is_firing : (c : After-get) → IsActivationOutput c.args.net.now c.in-Port.q.block c.in-Port.q.port → c.get.result ≡ firing_of c.args.net.now c.in-Port.q
is_firing c out =
    let least = out.least in
    let most : c.in-Port.q.port ≤ length c.spec.result.now.firing = omega (arith, c.len.ensures.value, c.if-q-len.true) in
    c.get.ensures ∙ (numbered_is (pos 0) (negsuc 0) c.spec.result.now.firing c.in-Port.q.port least most
    ∙ ap (λ s. numbered (negsuc 0) s.firing c.in-Port.q.port) c.spec.ensures.value)

pub returns-then-q-len-clause-value : goal.returns-then-q-len-clause-value
returns-then-q-len-clause-value c =
    to_z-of_z w64 c.get.result (search rules)
    ∙ (is_firing (goal.at.returns-then-q-len-clause-value c).After-get (output (goal.at.returns-then-q-len-clause-value c).In-Port)
    ∙ ap (firing_at c.args.net.now) c.in-Port.ensures)

pub returns-then-q-len-clause-small : goal.returns-then-q-len-clause-small
returns-then-q-len-clause-small c =
    subst (λ (z : ℤ). z <ℤ pos 2147483648)
    (sym (to_z-of_z w64 c.get.result (search rules) ∙ is_firing (goal.at.returns-then-q-len-clause-small c).After-get
    (output (goal.at.returns-then-q-len-clause-small c).In-Port)))
    (firing_small c.args.net.now c.in-Port.q (ap typed (sym c.spec.ensures.value) ∙ c.spec.ensures.is_typed))
