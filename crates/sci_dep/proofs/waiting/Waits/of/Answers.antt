use Rattle.std.proofs.Common.{◌∙◌, ◌≤◌, List, ℕ, ap, sym, arith, length, [], Vec}
use Rattle.std.specs.declared.alloc.Global.{Global}
use Rattle.std.proofs.lemmas.List.{length-map}
use Rattle.sci_net.specs.Parts.{numbered}
use Rattle.sci_net.proofs.Numbered.{numbered_map}
use Rattle.sci_dep.proofs.waiting.Waits.of.Goals as goal

pub returns : goal.returns
returns c =
    let vs = c.self.inside.lists.items in
    let long = length-map vs (λ (v : Vec ℕ Global). v.items) in
    let same = ap (λ (o : List (List ℕ)). length o) c.self.view_is in
    let most : c.args.block ≤ length vs = omega (arith, long, same, c.requires.most) in
    c.as_slice.ensures.value
    ∙ (sym (numbered_map (λ (v : Vec ℕ Global). v.items) [] vs c.args.block c.index.result.now c.requires.least most c.index.ensures)
    ∙ ap (λ (o : List (List ℕ)). numbered [] o c.args.block) c.self.view_is)
