use Rattle.std.proofs.Common.{◌∙◌, List, refl, subst, arith}
use Rattle.std.proofs.lemmas.List.{take_all}
use Rattle.sci_net.specs.declared.Feed.{Feed}
use Rattle.sci_loop.specs.Lists.{plain, Adds}
use Rattle.sci_inherit.specs.Followers.{SenderGets}
use Rattle.sci_inherit.proofs.Linked.{senders_none, senders_next}
use Rattle.sci_inherit.proofs.followers.push_to_senders.Goals as goal

pub loop-feed-init : goal.loop-feed-init
loop-feed-init c = record { len = refl; adds = senders_none c.args.feeds.now c.args.block (plain c.args.targets.now.items) }

pub push_target-requires : goal.push_target-requires
push_target-requires c =
    let d : Feed = record { block = 0; port = 0 } in
    let inside = c.requires c.loop-feed.feed-index d c.loop-feed-test.true in
    omega (arith, inside, c.loop-feed.invariant.len)

pub loop-feed-preserved : goal.loop-feed-preserved
loop-feed-preserved c =
    let d : Feed = record { block = 0; port = 0 } in
    record {
      len = c.in_ok-push_target.ensures.len ∙ c.loop-feed.invariant.len;
      adds = senders_next c.args.feeds.now c.args.block c.loop-feed.feed-index d (plain c.args.targets.now.items) (plain c.loop-feed.targets.items) (plain c.push_target.new.targets.items) c.loop-feed-test.true
          c.loop-feed.invariant.adds c.in_ok-push_target.ensures.targets;
    }

pub returns-clause-targets : goal.returns-clause-targets
returns-clause-targets c =
    let P : List Feed → Type 0 = λ l. Adds (SenderGets l c.args.block) (plain c.args.targets.now.items) (plain c.loop-feed.targets.items) in
    subst P (take_all c.loop-feed.feed-index c.args.feeds.now c.loop-feed-test.false) c.loop-feed.invariant.adds
