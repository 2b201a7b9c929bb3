use Rattle.std.proofs.Common.{take}
use Rattle.std.specs.Prelude.{Contains}
use Rattle.sci_inherit.specs.Followers.{plain_rows, Fills, FeedGets, Appends}
use Rattle.sci_inherit.proofs.rows.push_to_feeds.Given as goal

abbrev pub invariant-loop-feed : goal.invariant-loop-feed
invariant-loop-feed l = record {
  fills : Fills (FeedGets l.wanted (take l.feed-index l.feeds) l.fed) (plain_rows l.initial.rows.items) (plain_rows l.rows.items);
  appends : Appends (Contains (take l.feed-index l.feeds)) l.fed (plain_rows l.initial.rows.items) (plain_rows l.rows.items);
}
