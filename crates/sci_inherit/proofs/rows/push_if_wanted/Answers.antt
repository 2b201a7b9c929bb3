use Rattle.std.proofs.Common.{◌≡◌, ◌∷◌, [], ◌∙◌, sym, true≢false}
use Rattle.std.proofs.lemmas.Result.{on_ok_weaker}
use Rattle.sci_inherit.specs.Followers.{plain_rows, RowGets, FeedGets}
use Rattle.sci_inherit.proofs.Filling.{fills_same, fills_none}
use Rattle.sci_inherit.proofs.InOrder.{appends_nothing}
use Rattle.sci_inherit.proofs.Linked.{gets_wanted, gets_unwanted}
use Rattle.sci_inherit.proofs.rows.push_if_wanted.Goals as goal

pub returns-then-wanted-feed-clause-fills : goal.returns-then-wanted-feed-clause-fills
returns-then-wanted-feed-clause-fills c =
    let q = c.args.feed in
    let f = c.args.fed in
    let w = c.args.wanted.now in
    on_ok_weaker c.push_to_feed.result
    (fills_same (RowGets q f) (FeedGets w (q ∷ []) f) (plain_rows c.args.rows.now.items) (plain_rows c.push_to_feed.new.rows.items) (gets_wanted w q f c.if-wanted-feed.true))
    c.push_to_feed.ensures.fills

pub returns-else-wanted-feed-clause-fills : goal.returns-else-wanted-feed-clause-fills
returns-else-wanted-feed-clause-fills c =
    let q = c.args.feed in
    let f = c.args.fed in
    let w = c.args.wanted.now in
    fills_none (FeedGets w (q ∷ []) f) (plain_rows c.args.rows.now.items) (gets_unwanted w q f (λ t. true≢false (sym t ∙ c.if-wanted-feed.false)))

pub returns-else-wanted-feed-clause-appends : goal.returns-else-wanted-feed-clause-appends
returns-else-wanted-feed-clause-appends c = appends_nothing (λ q. c.args.feed ≡ q) c.args.fed (plain_rows c.args.rows.now.items)
