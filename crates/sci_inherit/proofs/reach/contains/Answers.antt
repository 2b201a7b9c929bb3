use Rattle.std.proofs.Common.{rules, of_calls}
use Rattle.std.proofs.lemmas.Fn.{always_returns_same}
use Rattle.sci_net.specs.Parts.{precedes}
use Rattle.sci_inherit.proofs.Ordered.{parted, stands}
use Rattle.sci_inherit.proofs.reach.contains.Goals as goal

pub returns : goal.returns
returns c =
    let fs = c.args.feeds.now in
    let q = c.args.feed in
    let at = c.partition_point-at.result in
    let point = c.partition_point-at.ensures.partitioned (λ f. precedes f q) (always_returns_same _ _ _ (λ a r f k. search (rules, of_calls))) (parted fs q c.requires) in
    (λ t. let h = c.is_at.ensures.0 t in (at, h.0, h.1), λ has. c.is_at.ensures.1 (stands fs q at c.requires point has))
