use Rattle.std.proofs.Common.{◌∙◌, ℕ, refl, arith, Vec}
use Rattle.std.specs.declared.alloc.Global.{Global}
use Rattle.std.proofs.lemmas.List.{length-map}
use Rattle.sci_loop.specs.Lists.{plain}
use Rattle.sci_dep.proofs.Waited.{put_none, put_next, put_done}
use Rattle.sci_dep.proofs.waiting.put.Goals as goal

pub loop-block-init : goal.loop-block-init
loop-block-init c = record { len = refl; adds = put_none c.args.reached.now c.args.condition (plain c.args.lists.now.items) }

pub loop-block-preserved : goal.loop-block-preserved
loop-block-preserved c =
    let i = c.loop-block.block-index in
    let within = c.requires i 0 c.loop-block-test.true in
    let long = length-map c.loop-block.lists.items (λ (v : Vec ℕ Global). v.items) in
    let same = c.loop-block.invariant.len in
    record {
      len = c.in_ok-push_at.ensures.len ∙ same;
      adds = put_next c.args.reached.now c.args.condition i (plain c.args.lists.now.items) (plain c.loop-block.lists.items) (plain c.push_at.new.lists.items) c.loop-block-test.true
          (omega (arith, within, long, same, c.loop-block.lists.ok.0)) c.in_ok-push_at.ensures.lists c.loop-block.invariant.adds;
    }

pub returns-clause-adds : goal.returns-clause-adds
returns-clause-adds c = put_done c.args.reached.now c.args.condition c.loop-block.block-index (plain c.args.lists.now.items) (plain c.loop-block.lists.items) c.loop-block-test.false c.loop-block.invariant.adds
