use Rattle.std.proofs.Common.{◌+◌, ◌-◌, get_or, set, take, subst, sym, arith}
use Rattle.sci_inherit.specs.declared.Fed.{Fed}
use Rattle.sci_sched.specs.Marks.{HaveFed}
use Rattle.sci_sched.proofs.Marking.{fed_more}
use Rattle.sci_sched.proofs.marks.set_fed.Goals as goal

pub loop-fed-preserved : goal.loop-fed-preserved
loop-fed-preserved c =
    let fs = c.args.feeding.now in let i = c.loop-fed.fed-index in let masks = c.loop-fed.masks in
    let none : Fed = record { block = 0; input = 0 } in
    let f = get_or fs i none in
    let fit = c.requires.fit i none c.loop-fed-test.true in
    let inside = fit.block in let least = fit.least in
    subst (λ m. HaveFed (take (i + 1) fs) (set masks f.block m)) (sym c.set_bit.ensures)
    (fed_more fs masks i none (f.input - 1) c.loop-fed-test.true (omega (arith, inside, c.loop-fed.auto.masks)) (omega (arith, least)) c.loop-fed.invariant)
