use Rattle.std.proofs.Common.{◌∙◌, ◌<◌, refl, sym, subst, arith, get_or, vec_len}
use Rattle.std.specs.Prelude.{All}
use Rattle.sci_loop.specs.Lists.{plain}
use Rattle.sci_loop.proofs.Adding.{list_at-plain}
use Rattle.sci_sched.proofs.Putting.{onward_none, onward_next, onward_done}
use Rattle.sci_sched.proofs.marks.put_all.Goals as goal

pub loop-condition-init : goal.loop-condition-init
loop-condition-init c = record { len = refl; adds = onward_none (plain c.args.onward.now) c.args.blocks.now (plain c.args.conditions.now.items) }

pub put-requires : goal.put-requires
put-requires c =
    let i = c.loop-condition.condition-index in
    let p = get_or c.args.blocks.now i 0 in
    let inside = c.requires.blocks i 0 c.loop-condition-test.true in
    let is = c.deref.ensures.value ∙ sym (list_at-plain c.args.onward.now p c.index-onward-condition.result inside c.index-onward-condition.is) in
    subst (All (λ b. b < vec_len c.loop-condition.conditions)) (sym is) (λ k d h. let low = c.requires.reached p k d h in omega (arith, low, c.loop-condition.invariant.len))

pub loop-condition-preserved : goal.loop-condition-preserved
loop-condition-preserved c =
    let i = c.loop-condition.condition-index in
    let p = get_or c.args.blocks.now i 0 in
    let inside = c.requires.blocks i 0 c.loop-condition-test.true in
    let is = c.deref.ensures.value ∙ sym (list_at-plain c.args.onward.now p c.index-onward-condition.result inside c.index-onward-condition.is) in
    record {
      len = c.in_ok-put.ensures.len ∙ c.loop-condition.invariant.len;
      adds = onward_next (plain c.args.onward.now) c.args.blocks.now i c.deref.result.now (plain c.args.conditions.now.items) (plain c.loop-condition.conditions.items) (plain c.put.new.conditions.items)
          c.loop-condition-test.true is c.loop-condition.invariant.adds c.in_ok-put.ensures.adds;
    }

pub returns-clause-adds : goal.returns-clause-adds
returns-clause-adds c =
    onward_done (plain c.args.onward.now) c.args.blocks.now c.loop-condition.condition-index (plain c.args.conditions.now.items) (plain c.loop-condition.conditions.items) c.loop-condition-test.false c.loop-condition.invariant.adds
