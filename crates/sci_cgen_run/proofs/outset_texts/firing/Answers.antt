use Rattle.std.proofs.Common.{◌≤◌, length, w64, pos, negsuc, ap, ◌∙◌, rules, arith}
use Rattle.std.proofs.lemmas.Int.{to_z-of_z}
use Rattle.sci_net.specs.Parts.{IsActivationOutput, numbered}
use Rattle.sci_program.specs.Program.{firing_at}
use Rattle.sci_cgen_run.proofs.OutsetLemmas.{port_at, numbered_is}
use Rattle.sci_cgen_run.proofs.outset_texts.firing.Goals.{In-Port}
use Rattle.sci_cgen_run.proofs.outset_texts.firing.Goals as goal

output : (c : In-Port) → IsActivationOutput c.args.net.now c.in-Port.q.block c.in-Port.q.port
output c = port_at c.args.net.now c.args.source c.in-Port.q c.requires c.in-Port.ensures

pub spec-requires-clause-least : goal.spec-requires-clause-least
spec-requires-clause-least c = (output (goal.at.spec-requires-clause-least c).In-Port).block.least

pub spec-requires-clause-most : goal.spec-requires-clause-most
spec-requires-clause-most c = (output (goal.at.spec-requires-clause-most c).In-Port).block.most

pub overflow_sub-q : goal.overflow_sub-q
overflow_sub-q c = (output (goal.at.overflow_sub-q c).In-Port).least

pub get-requires : goal.get-requires
get-requires c = let p = (output (goal.at.get-requires c).In-Port).least in let t = c.if-q-len.true in omega (arith, c.len.ensures.value)

pub returns-then-q-len : goal.returns-then-q-len
returns-then-q-len c =
    let least = (output (goal.at.returns-then-q-len c).In-Port).least in
    let most : c.in-Port.q.port ≤ length c.spec.result.now.firing = omega (arith, c.len.ensures.value, c.if-q-len.true) in
    to_z-of_z w64 c.get.result (search rules)
    ∙ (c.get.ensures
    ∙ (numbered_is (pos 0) (negsuc 0) c.spec.result.now.firing c.in-Port.q.port least most
    ∙ (ap (λ s. numbered (negsuc 0) s.firing c.in-Port.q.port) c.spec.ensures.value ∙ ap (firing_at c.args.net.now) c.in-Port.ensures)))
