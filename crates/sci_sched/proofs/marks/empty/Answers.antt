use Rattle.std.proofs.Common.{◌∙◌, ℕ, List, ap, arith, get_or, set, Vec}
use Rattle.std.specs.declared.alloc.Global.{Global}
use Rattle.std.proofs.lemmas.List.{length-map, map-set}
use Rattle.sci_loop.specs.Lists.{plain}
use Rattle.sci_sched.proofs.Putting.{empty_none, empty_next, empty_done}
use Rattle.sci_sched.proofs.marks.empty.Goals as goal

pub loop-block-init : goal.loop-block-init
loop-block-init c = empty_none c.args.blocks.now (plain c.args.conditions.now)

pub loop-block-preserved : goal.loop-block-preserved
loop-block-preserved c =
    let i = c.loop-block.block-index in
    let b = get_or c.args.blocks.now i 0 in
    let mid = c.loop-block.conditions in
    let within = c.requires i 0 c.loop-block-test.true in
    let long = length-map mid (λ (v : Vec ℕ Global). v.items) in
    empty_next c.args.blocks.now i (plain c.args.conditions.now) (plain mid) (plain (set mid b c.clear.new.self)) c.loop-block-test.true (omega (arith, within, long, c.loop-block.auto.conditions))
    (map-set (λ (v : Vec ℕ Global). v.items) mid b c.clear.new.self ∙ ap (λ (l : List ℕ). set (plain mid) b l) c.clear.ensures.items) c.loop-block.invariant

pub returns : goal.returns
returns c = empty_done c.args.blocks.now c.loop-block.block-index (plain c.args.conditions.now) (plain c.loop-block.conditions) c.loop-block-test.false c.loop-block.invariant
