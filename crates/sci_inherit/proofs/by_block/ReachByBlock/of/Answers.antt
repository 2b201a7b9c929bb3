use Rattle.std.proofs.Common.{◌∙◌, ◌≤◌, ap, sym, arith, length, [], Vec}
use Rattle.std.specs.declared.alloc.Global.{Global}
use Rattle.std.proofs.lemmas.List.{length-map}
use Rattle.sci_net.specs.declared.Feed.{Feed}
use Rattle.sci_net.specs.Parts.{numbered}
use Rattle.sci_net.proofs.Numbered.{numbered_map}
use Rattle.sci_inherit.specs.ByBlock.{ByBlock}
use Rattle.sci_inherit.proofs.by_block.ReachByBlock.of.Goals as goal

pub returns : goal.returns
returns c =
    let vs = c.self.inside.reaching.items in
    let long = length-map vs (λ (v : Vec Feed Global). v.items) in
    let same = ap (λ (r : ByBlock). length r.reaching) c.self.view_is in
    let most : c.args.block ≤ length vs = omega (arith, long, same, c.requires.most) in
    c.as_slice.ensures.value
    ∙ (sym (numbered_map (λ (v : Vec Feed Global). v.items) [] vs c.args.block c.index.result.now c.requires.least most c.index.ensures)
    ∙ ap (λ (r : ByBlock). numbered [] r.reaching c.args.block) c.self.view_is)
