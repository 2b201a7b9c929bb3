use Rattle.std.proofs.Common.{◌∙◌, sym, take}
use Rattle.std.proofs.lemmas.List.Elements.{All-get_or}
use Rattle.sci_net.specs.declared.Feed.{Feed}
use Rattle.sci_inherit.specs.Followers.{plain_rows, HasRow, FeedGets}
use Rattle.sci_inherit.proofs.Filling.{has_row_same}
use Rattle.sci_inherit.proofs.InOrder.{appends_next}
use Rattle.sci_inherit.proofs.Linked.{gets_next}
use Rattle.sci_inherit.proofs.rows.push_to_feeds.Goals as goal

pub push_if_wanted-requires-clause-row : goal.push_if_wanted-requires-clause-row
push_if_wanted-requires-clause-row c =
    let d : Feed = record { block = 0; port = 0 } in
    let fs = c.args.feeds.now in
    let i = c.loop-feed.feed-index in
    has_row_same (FeedGets c.args.wanted.now (take i fs) c.args.fed) (plain_rows c.args.rows.now.items) (plain_rows c.loop-feed.rows.items) _ c.loop-feed.invariant.fills
    (All-get_or (HasRow (plain_rows c.args.rows.now.items)) fs i d c.loop-feed-test.true c.requires.rows)

pub loop-feed-preserved : goal.loop-feed-preserved
loop-feed-preserved c =
    let d : Feed = record { block = 0; port = 0 } in
    let fs = c.args.feeds.now in
    let i = c.loop-feed.feed-index in
    let old = plain_rows c.args.rows.now.items in
    let mid = plain_rows c.loop-feed.rows.items in
    let new = plain_rows c.push_if_wanted.new.rows.items in
    record {
      fills = gets_next c.args.wanted.now fs c.args.fed i d old mid new c.loop-feed-test.true c.loop-feed.invariant.fills c.in_ok-push_if_wanted.ensures.fills;
      appends = appends_next fs c.args.fed i d old mid new c.loop-feed-test.true c.requires.rising c.loop-feed.invariant.appends c.in_ok-push_if_wanted.ensures.appends;
    }

pub push_if_wanted-requires-clause-wanted : goal.push_if_wanted-requires-clause-wanted
push_if_wanted-requires-clause-wanted c = c.requires.wanted ∙ sym c.loop-feed.invariant.fills.long
