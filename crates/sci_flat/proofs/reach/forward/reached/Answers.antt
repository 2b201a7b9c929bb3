use Rattle.std.proofs.Common.{◌∙◌, refl, arith}
use Rattle.std.proofs.lemmas.List.{length-map}
use Rattle.sci_flat.specs.Lists.{lists_of}
use Rattle.sci_flat.specs.Successors.{targets}
use Rattle.sci_flat.proofs.Leading.{targets_lead}
use Rattle.sci_flat.proofs.ReachReaching.{reaching_more, reaching_all}
use Rattle.sci_flat.proofs.reach.forward.reached.Goals as goal

pub loop-i-preserved : goal.loop-i-preserved
loop-i-preserved c =
    reaching_more c.args.steps.now (targets c.args.steps.now) c.args.sources.now c.args.wanted.now c.loop-i.search c.walk.new.self c.loop-i.i (targets_lead c.args.steps.now) c.in_ok-walk.ensures c.loop-i.invariant

pub returns : goal.returns
returns c =
    reaching_all c.args.steps.now c.args.sources.now c.args.wanted.now c.loop-i.search (lists_of c.loop-i.search.lists) c.loop-i.i (omega arith) refl
    (length-map c.loop-i.search.lists.items _ ∙ c.loop-i.invariant.ready.lists_long) c.loop-i.invariant
