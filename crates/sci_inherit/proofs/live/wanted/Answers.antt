use Rattle.std.proofs.Common.{◌∙◌, ◌++◌, ◌∷◌, [], List, Bool, false, ap, arith}
use Rattle.sci_inherit.proofs.Living.{wanted_none, wanted_next, wanted_all}
use Rattle.sci_inherit.proofs.live.wanted.Goals as goal

pub loop-at-init : goal.loop-at-init
loop-at-init c = wanted_none c.args.net.now c.push.new.self.items (c.in_ok-push.ensures.items ∙ ap (λ (l : List Bool). l ++ false ∷ []) c.new-wanted.ensures.items)

pub loop-at-preserved : goal.loop-at-preserved
loop-at-preserved c =
    wanted_next c.args.net.now c.loop-at.at c.is_wanted.result c.loop-at.wanted.items c.push-in-loop-at.new.self.items c.in_ok-push-2.ensures.items c.is_wanted.ensures c.loop-at.invariant

pub returns : goal.returns
returns c =
    wanted_all c.args.net.now c.loop-at.at c.loop-at.wanted.items (omega (arith, c.len-at-end.ensures, c.loop-at-test.false, c.loop-at.auto.at-end)) c.loop-at.invariant
