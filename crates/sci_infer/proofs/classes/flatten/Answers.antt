use Rattle.std.proofs.Common.{◌≡◌, ◌<◌, ap, ◌∙◌, arith, length, get_or}
use Rattle.std.proofs.lemmas.List.{get_or_read}
use Rattle.sci_infer.proofs.Trees.{renewed_refl, renewed_trans, flatten_one}
use Rattle.sci_infer.proofs.classes.flatten.Goals as goal

pub loop-i-init : goal.loop-i-init
loop-i-init c = record { renewed = renewed_refl c.args.parents.now.items c.requires; flat = λ i h. absurd (omega arith) }

pub loop-i-preserved : goal.loop-i-preserved
loop-i-preserved c =
    let ps = c.loop-i.parents.items in
    let inv = c.loop-i.invariant in
    let same_n : length ps ≡ length c.args.parents.now.items = inv.renewed.same_length in
    let within : c.loop-i.i < length ps = omega (arith, c.loop-i-test.true, same_n, c.len-i-end.ensures, c.args.parents.now.ok.0) in
    let up : c.index.result.now ≡ get_or ps c.loop-i.i 0 = get_or_read ps c.loop-i.i c.index.result.now within c.index.ensures 0 in
    let low = inv.renewed.forest c.loop-i.i within in
    let inside : c.index.result.now < length ps = omega (arith, low, up, within) in
    let above : c.index-above.result.now ≡ get_or ps c.index.result.now 0 = get_or_read ps c.index.result.now c.index-above.result.now inside c.index-above.ensures 0 in
    let t = flatten_one ps c.loop-i.i c.index-above.result.now inv.renewed.forest within inv.flat (above ∙ ap (λ k. get_or ps k 0) up) in
    record { renewed = renewed_trans _ _ _ inv.renewed t.0; flat = t.1 }

pub returns : goal.returns
returns c =
    let inv = c.loop-i.invariant in
    let same_n : length c.loop-i.parents.items ≡ length c.args.parents.now.items = inv.renewed.same_length in
    record { renewed = inv.renewed; flat = λ i h. inv.flat i (omega (arith, h, same_n, c.loop-i-test.false, c.len-i-end.ensures, c.args.parents.now.ok.0)) }
