use Rattle.std.proofs.Common.{◌≡◌, ◌∙◌, ◌+◌, true, ap, replicate, rules}
use Rattle.sci_loop.specs.Lists.{plain}
use Rattle.sci_inherit.proofs.Viewed.{by_block_are, all_marked}
use Rattle.sci_inherit.proofs.by_block.made.Goals as goal

pub returns : goal.returns
returns c =
    let n = c.args.net.now in
    let all : c.in_ok-all.all.items ≡ replicate (c.len.result + 1) true = search rules in
    let marked = all_marked n (c.len.result + 1) c.in_ok-rows.rows.wanted.items (c.in_ok-rows.ensures.wanted ∙ all) (ap (λ k. k + 1) c.len.ensures) in
    by_block_are n c.in_ok-rows.rows.wanted.items (plain c.in_ok-reaching.reaching.items) c.in_ok-at_start.at_start.items c.well_formed-2.ensures marked c.in_ok-reaching.ensures.gathered c.in_ok-at_start.ensures
