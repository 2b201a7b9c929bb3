use Rattle.std.proofs.Common.{ℕ, ◌<◌, List, length, sym, ◌∙◌, subst}
use Rattle.std.specs.Prelude.{All}
use Rattle.sci_flat.proofs.ReachFilling.{list_at-plain}
use Rattle.sci_flat.proofs.rows.feed_rows.Goals as goal

pub feed_list-requires : goal.feed_list-requires
feed_list-requires c =
    let i = c.loop-list.list-index in
    let P : List ℕ → Type 0 = All (λ x. x < length c.args.feeds.now) in
    subst P (list_at-plain c.args.lists.now i c.list-item.result c.loop-list-test.true c.list-item.is ∙ sym c.deref.ensures.value) (c.requires i)
