use Rattle.std.proofs.Common.{◌≡◌, ◌∙◌, ℕ, ◌-◌, ◌<◌, ◌≤◌, suc, List, ◌∷◌, [], ◌++◌, refl, sym, ap, subst, arith, length, get_or, take, vec_len, Vec}
use Rattle.std.specs.Prelude.{Contains}
use Rattle.std.specs.declared.alloc.Global.{Global}
use Rattle.std.proofs.lemmas.List.{length-map, take_more}
use Rattle.std.proofs.lemmas.List.Elements.{All-get_or}
use Rattle.sci_net.specs.declared.Feed.{Feed}
use Rattle.sci_loop.specs.Lists.{plain}
use Rattle.sci_inherit.specs.Gather.{Pushes}
use Rattle.sci_inherit.proofs.Gathering.{pushes_none, pushes_next, apart}
use Rattle.sci_inherit.proofs.gather.push_to_all.Goals as goal

pub loop-block-init : goal.loop-block-init
loop-block-init c = record { len = refl; pushes = pushes_none c.args.feed (plain c.args.lists.now.items) }

pub push_at-requires : goal.push_at-requires
push_at-requires c =
    let ps = c.args.blocks.now in
    let i = c.loop-block.block-index in
    let in_ = All-get_or (λ (b : ℕ). (1 ≤ b) × (b ≤ vec_len c.args.lists.now)) ps i 0 c.loop-block-test.true c.requires.within in
    omega (arith, in_.0, in_.1, c.loop-block.invariant.len)

pub loop-block-preserved : goal.loop-block-preserved
loop-block-preserved c =
    let ps = c.args.blocks.now in
    let i = c.loop-block.block-index in
    let b = get_or ps i 0 in
    let in_ = All-get_or (λ (x : ℕ). (1 ≤ x) × (x ≤ vec_len c.args.lists.now)) ps i 0 c.loop-block-test.true c.requires.within in
    let low : 1 ≤ b = in_.0 in
    let high : b ≤ vec_len c.args.lists.now = in_.1 in
    let same : suc (b - 1) ≡ b = omega (arith, low) in
    let old = plain c.args.lists.now.items in
    let mid = plain c.loop-block.lists.items in
    let new = plain c.push_at.new.lists.items in
    let long = length-map c.loop-block.lists.items (λ (v : Vec Feed Global). v.items) in
    let inside : b - 1 < length mid = omega (arith, low, high, long, c.loop-block.invariant.len, c.loop-block.lists.ok.0) in
    let far : Contains (take i ps) (suc (b - 1)) → ⊥ = λ h. apart ps i c.loop-block-test.true c.requires.once (subst (Contains (take i ps)) same h) in
    let P : List ℕ → Type 0 = λ l. Pushes (Contains l) c.args.feed old new in
    record {
      len = c.in_ok-push_at.ensures.len ∙ c.loop-block.invariant.len;
      pushes = subst P (ap (λ (x : ℕ). take i ps ++ x ∷ []) same ∙ sym (take_more ps i 0 c.loop-block-test.true))
          (pushes_next c.args.feed (take i ps) (b - 1) old mid new inside far c.in_ok-push_at.ensures.lists c.loop-block.invariant.pushes);
    }
