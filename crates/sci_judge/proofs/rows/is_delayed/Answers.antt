use Rattle.std.proofs.Common.{ap, refl, sym, arith, ◌∙◌, true≢false}
use Rattle.sci_forms.specs.Form.{has_delay}
use Rattle.sci_forms.specs.declared.spec.Spec.{Spec}
use Rattle.sci_net.specs.Parts.{IsBlock, spec_of}
use Rattle.sci_judge.proofs.Programs.{port_at}
use Rattle.sci_judge.proofs.Delayed.{found_delayed, start_not}
use Rattle.sci_judge.proofs.rows.is_delayed.Goals.{In-Port}
use Rattle.sci_judge.proofs.rows.is_delayed.Goals as goal

block : (c : In-Port) → IsBlock c.args.net.now c.in-Port.q.block
block c = (port_at c.args.net.now c.args.source c.in-Port.q c.requires.source c.in-Port.ensures).0.block

pub has-requires : goal.has-requires
has-requires c = let most = (block (goal.at.has-requires c).In-Port).most in omega (arith, most, c.requires.count)

pub spec-requires-clause-least : goal.spec-requires-clause-least
spec-requires-clause-least c = (block (goal.at.spec-requires-clause-least c).In-Port).least

pub spec-requires-clause-most : goal.spec-requires-clause-most
spec-requires-clause-most c = (block (goal.at.spec-requires-clause-most c).In-Port).most

pub returns-in-Start : goal.returns-in-Start
returns-in-Start c = (
  λ on. absurd (true≢false (sym on)),
  λ h. absurd (start_not c.args.net.now c.args.found.now.found c.args.source c.in-Start.ensures h),
)

pub returns-then-has : goal.returns-then-has
returns-then-has c =
    let both = found_delayed c.args.net.now c.args.found.now.found c.args.source c.in-Port.q c.has.result c.has_delay.result c.requires.source c.in-Port.ensures c.has.ensures
    (c.has_delay.ensures ∙ ap (λ (s : Spec). has_delay s.kind) c.spec.ensures.value) in
    ((λ on. both.0 (c.if-has.true, on)), λ h. (both.1 h).1)

pub returns-else-has : goal.returns-else-has
returns-else-has c =
    let both = found_delayed c.args.net.now c.args.found.now.found c.args.source c.in-Port.q c.has.result (has_delay (spec_of c.args.net.now c.in-Port.q.block).kind) c.requires.source
    c.in-Port.ensures c.has.ensures refl in
    ((λ on. absurd (true≢false (sym on ∙ c.if-has.false))), λ h. (both.1 h).0)
