use Rattle.std.proofs.Common.{◌+◌, get_or, take, ◌∷◌, [], arith}
use Rattle.std.proofs.lemmas.List.{take_more}
use Rattle.sci_loop.proofs.Walking.{adds_none, adds_both}
use Rattle.sci_loop.proofs.walk.walk.Walk.add_all.Goals as goal

pub loop-number-init : goal.loop-number-init
loop-number-init c = adds_none c.args.self.now

pub loop-number-preserved : goal.loop-number-preserved
loop-number-preserved c =
    let ps = c.args.numbers.now in
    let i = c.loop-number.number-index in
    adds_both (take i ps) (get_or ps i 0 ∷ []) (take (i + 1) ps) c.args.self.now c.loop-number.self c.add.new.self (take_more ps i 0 (omega arith)) c.loop-number.invariant c.in_ok-add.ensures.ok
