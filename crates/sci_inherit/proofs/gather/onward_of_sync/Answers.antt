use Rattle.std.proofs.Common.{◌≡◌, ◌<◌, ◌↔◌, ◌∙◌, ℕ, List, sym, subst, arith, Vec}
use Rattle.std.specs.Prelude.{Contains, All}
use Rattle.std.specs.declared.alloc.Global.{Global}
use Rattle.sci_loop.specs.Lists.{plain, list_at}
use Rattle.sci_loop.proofs.Adding.{list_at-plain}
use Rattle.sci_inherit.specs.Followers.{AreHeirs, FeedsSome}
use Rattle.sci_inherit.proofs.Gathering.{heirs_inside}
use Rattle.sci_inherit.proofs.Living.{targets_inside}
use Rattle.sci_inherit.proofs.Sourced.{onward_found}
use Rattle.sci_inherit.proofs.gather.onward_of_sync.Goals as goal

pub walk-requires-clause-starts : goal.walk-requires-clause-starts
walk-requires-clause-starts c =
    let n = c.args.net.now in
    let b = c.args.block in
    let vs = c.args.links.now.targets.items in
    let is : c.deref-2.result.now ≡ list_at (plain vs) b =
    c.deref-2.ensures.value ∙ sym (list_at-plain vs b c.index.result.now (let l = c.requires.links.targets_long in omega (arith, l, c.requires.most)) c.index.ensures) in
    subst (All (λ x. x < c.args.walk.now.count)) (sym is) (targets_inside n (plain vs) c.args.walk.now.count c.requires.links.targets c.requires.walk b)

pub walk-requires-clause-within : goal.walk-requires-clause-within
walk-requires-clause-within c =
    let heirs = subst (λ (vs : List (Vec ℕ Global)). AreHeirs c.args.net.now (plain vs)) (sym c.deref.ensures.value) c.requires.links.heirs in
    heirs_inside c.args.net.now (plain c.deref.result.now) c.args.walk.now.count heirs c.requires.walk

pub returns-clause-onward : goal.returns-clause-onward
returns-clause-onward c =
    let n = c.args.net.now in
    let b = c.args.block in
    let vs = c.args.links.now.targets.items in
    let heirs = subst (λ (ws : List (Vec ℕ Global)). AreHeirs n (plain ws)) (sym c.deref.ensures.value) c.requires.links.heirs in
    let is : c.deref-2.result.now ≡ list_at (plain vs) b =
    c.deref-2.ensures.value ∙ sym (list_at-plain vs b c.index.result.now (let l = c.requires.links.targets_long in omega (arith, l, c.requires.most)) c.index.ensures) in
    let Feeds : List ℕ → Type 0 = λ l. (x : ℕ) → Contains l x ↔ FeedsSome n b x in
    onward_found n b (plain c.deref.result.now) c.deref-2.result.now c.walk.new.self.found c.in_ok-from_slice.field-0.items c.requires.sync heirs (subst Feeds (sym is) (c.requires.links.targets b))
    c.in_ok-walk.ensures.found c.found.ensures.distinct (c.in_ok-from_slice.ensures.items ∙ c.found.ensures.value)
