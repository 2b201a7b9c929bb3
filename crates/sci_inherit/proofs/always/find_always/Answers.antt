use Rattle.std.proofs.Common.{List, ℕ, sym, subst, Vec}
use Rattle.std.specs.declared.alloc.Global.{Global}
use Rattle.std.proofs.lemmas.Result.{on_ok_weaker}
use Rattle.sci_loop.specs.Lists.{plain}
use Rattle.sci_inherit.specs.Followers.{AreHeirs}
use Rattle.sci_inherit.specs.Gather.{AreSetOff}
use Rattle.sci_inherit.proofs.Gathering.{heirs_inside, blocks_inside}
use Rattle.sci_inherit.proofs.Sourced.{set_off_block, always_found}
use Rattle.sci_inherit.proofs.always.find_always.Goals as goal

pub walk-requires-clause-starts : goal.walk-requires-clause-starts
walk-requires-clause-starts c =
    let n = c.args.net.now in
    let s = c.args.source in
    let off = subst (AreSetOff n s) (sym c.deref-2.ensures.value) c.in_ok-starts.ensures in
    blocks_inside n c.args.walk.now.count c.deref-2.result.now c.requires.walk (λ b h. set_off_block n s b ((off b).0 h))

pub walk-requires-clause-within : goal.walk-requires-clause-within
walk-requires-clause-within c =
    let heirs = subst (λ (vs : List (Vec ℕ Global)). AreHeirs c.args.net.now (plain vs)) (sym c.deref.ensures.value) c.requires.links.heirs in
    heirs_inside c.args.net.now (plain c.deref.result.now) c.args.walk.now.count heirs c.requires.walk

pub returns-clause-always : goal.returns-clause-always
returns-clause-always c =
    let n = c.args.net.now in
    let s = c.args.source in
    let heirs = subst (λ (vs : List (Vec ℕ Global)). AreHeirs n (plain vs)) (sym c.deref.ensures.value) c.requires.links.heirs in
    let off = subst (AreSetOff n s) (sym c.deref-2.ensures.value) c.in_ok-starts.ensures in
    on_ok_weaker c.walk.result (always_found n s (plain c.deref.result.now) c.deref-2.result.now c.walk.new.self.found heirs off) c.walk.ensures.found
