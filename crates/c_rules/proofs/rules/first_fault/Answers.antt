use Rattle.std.proofs.lemmas.List.{drop_more}
use Rattle.c_rules.proofs.Judging.{judged_none, judged_more, judged_all}
use Rattle.c_rules.proofs.rules.first_fault.Goals as goal

pub loop-i-init : goal.loop-i-init
loop-i-init c = judged_none c.args.events.now c.in_ok-knowledge.knowledge c.in_ok-knowledge.ensures

pub loop-i-preserved : goal.loop-i-preserved
loop-i-preserved c =
    judged_more c.args.events.now c.loop-i.i _ c.loop-i.knowledge c.pass.new.self c.loop-i.found c.in_ok-fault.fault c.earliest-found.result (drop_more c.args.events.now c.loop-i.i _ c.loop-i-test.true) c.loop-i.invariant c.in_ok-fault.ensures.value c.earliest-found.ensures
    (λ s a. c.in_ok-pass.ensures s (c.in_ok-fault.ensures.same s a))

pub returns : goal.returns
returns c = judged_all c.args.events.now c.loop-i.i c.loop-i.knowledge c.loop-i.found c.loop-i-test.false c.loop-i.invariant
