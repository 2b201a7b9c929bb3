use Rattle.std.proofs.Common.{◌≡◌, refl}
use Rattle.std.proofs.lemmas.Result.{on_ok_weaker}
use Rattle.sci_inherit.specs.Followers.{plain_rows, RowGets}
use Rattle.sci_inherit.proofs.Filling.{fills_same, fills_put, put_is, row_here, row_other}
use Rattle.sci_inherit.proofs.InOrder.{appends_one}
use Rattle.sci_inherit.proofs.Linked.{gets_one}
use Rattle.sci_inherit.proofs.rows.push_to_feed.Goals as goal

pub returns-clause-fills : goal.returns-clause-fills
returns-clause-fills c =
    let q = c.args.feed in
    let f = c.args.fed in
    let vs = c.args.rows.now.items in
    on_ok_weaker c.push_at.result
    (λ e. fills_same (λ x g. (x.block ≡ q.block) × (x.port ≡ q.port) × (f ≡ g)) (RowGets q f) (plain_rows vs) _ (λ x g. gets_one q f q.block q.port x g refl refl)
    (fills_put vs q.block q.port c.index_mut.result.now c.push_at.new.lists f c.requires.block c.requires.port c.index_mut.ensures.value e))
    c.push_at.ensures.lists

pub returns-clause-appends : goal.returns-clause-appends
returns-clause-appends c =
    let q = c.args.feed in
    let f = c.args.fed in
    let vs = c.args.rows.now.items in
    on_ok_weaker c.push_at.result
    (λ e.
    let is = put_is vs q.block q.port c.index_mut.result.now c.push_at.new.lists f c.requires.block c.index_mut.ensures.value e in
    appends_one q f (plain_rows vs) _ (row_here (plain_rows vs) _ q.block q.port f c.requires.block c.requires.port is) (row_other (plain_rows vs) _ q.block q.port f c.requires.block c.requires.port is))
    c.push_at.ensures.lists
