use Rattle.std.proofs.Common.{◌∙◌, ◌≤◌, ap, sym, arith, length, [], Vec}
use Rattle.std.specs.declared.alloc.Global.{Global}
use Rattle.std.proofs.lemmas.List.{length-map}
use Rattle.sci_net.specs.declared.Feed.{Feed}
use Rattle.sci_net.specs.Parts.{numbered}
use Rattle.sci_net.proofs.Numbered.{numbered_map}
use Rattle.sci_inherit.specs.Origins.{Origins}
use Rattle.sci_inherit.proofs.reach.Reach.branches.Goals as goal

pub returns : goal.returns
returns c =
    let vs = c.self.inside.branches.items in
    let long = length-map vs (λ (v : Vec Feed Global). v.items) in
    let same = ap (λ (o : Origins). length o.branches) c.self.view_is in
    let most : c.args.block ≤ length vs = omega (arith, long, same, c.requires.most) in
    c.as_slice.ensures.value
    ∙ (sym (numbered_map (λ (v : Vec Feed Global). v.items) [] vs c.args.block c.index.result.now c.requires.least most c.index.ensures)
    ∙ ap (λ (o : Origins). numbered [] o.branches c.args.block) c.self.view_is)
