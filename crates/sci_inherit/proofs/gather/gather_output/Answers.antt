use Rattle.std.proofs.Common.{◌∙◌, ◌↔◌, ℕ, List, sym, subst, vec_len, Vec}
use Rattle.std.specs.Prelude.{Contains}
use Rattle.std.specs.declared.alloc.Global.{Global}
use Rattle.std.proofs.lemmas.Result.{on_ok_weaker}
use Rattle.sci_loop.specs.Lists.{plain}
use Rattle.sci_loop.specs.Reached.{IsReached}
use Rattle.sci_reaction.specs.Links.{Feeds}
use Rattle.sci_reaction.specs.Active.{Reaches}
use Rattle.sci_inherit.specs.Followers.{AreHeirs}
use Rattle.sci_inherit.proofs.Gathering.{heirs_inside, blocks_inside, blocks_within, walked_is, reaches_block, pushes_same}
use Rattle.sci_inherit.proofs.Sourced.{fed_blocks}
use Rattle.sci_inherit.proofs.gather.gather_output.Goals as goal

pub walk-requires-clause-starts : goal.walk-requires-clause-starts
walk-requires-clause-starts c =
    let n = c.args.net.now in
    let q = c.args.feed in
    let are = fed_blocks n q c.args.fed.now c.deref-2.result.now c.well_formed-2.ensures c.requires.fed (c.deref-2.ensures.value ∙ c.in_ok-starts.ensures) in
    blocks_inside n c.args.walk.now.count c.deref-2.result.now c.requires.walk (λ b h. let f = (are b).0 h in f.within.block)

pub walk-requires-clause-within : goal.walk-requires-clause-within
walk-requires-clause-within c =
    let heirs = subst (λ (vs : List (Vec ℕ Global)). AreHeirs c.args.net.now (plain vs)) (sym c.deref.ensures.value) c.requires.links.heirs in
    heirs_inside c.args.net.now (plain c.deref.result.now) c.args.walk.now.count heirs c.requires.walk

pub push_to_all-requires-clause-within : goal.push_to_all-requires-clause-within
push_to_all-requires-clause-within c =
    let n = c.args.net.now in
    let q = c.args.feed in
    let starts = c.deref-2.result.now in
    let ls = plain c.deref.result.now in
    let heirs = subst (λ (vs : List (Vec ℕ Global)). AreHeirs n (plain vs)) (sym c.deref.ensures.value) c.requires.links.heirs in
    let are = fed_blocks n q c.args.fed.now starts c.well_formed-2.ensures c.requires.fed (c.deref-2.ensures.value ∙ c.in_ok-starts.ensures) in
    let Found : List ℕ → Type 0 = λ l. (b : ℕ) → Contains l b ↔ IsReached ls starts b in
    let found = subst Found (sym c.found.ensures.value) c.in_ok-walk.ensures.found in
    blocks_within n (vec_len c.args.reaching.now) c.found.result.now c.requires.len (λ b h. reaches_block n q ((walked_is n ls starts (Feeds n q) heirs are b).0 ((found b).0 h)))

pub returns-clause-lists : goal.returns-clause-lists
returns-clause-lists c =
    let n = c.args.net.now in
    let q = c.args.feed in
    let starts = c.deref-2.result.now in
    let ls = plain c.deref.result.now in
    let heirs = subst (λ (vs : List (Vec ℕ Global)). AreHeirs n (plain vs)) (sym c.deref.ensures.value) c.requires.links.heirs in
    let are = fed_blocks n q c.args.fed.now starts c.well_formed-2.ensures c.requires.fed (c.deref-2.ensures.value ∙ c.in_ok-starts.ensures) in
    let Found : List ℕ → Type 0 = λ l. (b : ℕ) → Contains l b ↔ IsReached ls starts b in
    let found = subst Found (sym c.found.ensures.value) c.in_ok-walk.ensures.found in
    on_ok_weaker c.push_to_all.result
    (pushes_same q (Contains c.found.result.now) (Reaches n q) (plain c.args.reaching.now.items) (plain c.push_to_all.new.lists.items)
    (λ b. let walked = walked_is n ls starts (Feeds n q) heirs are b in ((λ h. walked.0 ((found b).0 h)), λ r. (found b).1 (walked.1 r))))
    c.push_to_all.ensures.lists
