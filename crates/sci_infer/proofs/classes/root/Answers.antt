use Rattle.std.proofs.Common.{◌≡◌, ◌<◌, ap, ◌∙◌, arith, length, get_or}
use Rattle.std.proofs.lemmas.List.{get_or_read}
use Rattle.sci_infer.specs.Classes.{same}
use Rattle.sci_infer.proofs.Trees.{renewed_refl, turned}
use Rattle.sci_infer.proofs.classes.root.Goals as goal

pub loop-at-init : goal.loop-at-init
loop-at-init c = record { renewed = renewed_refl c.args.parents.now.items c.requires.forest; within = c.requires.within; leads = same }

pub loop-at-preserved : goal.loop-at-preserved
loop-at-preserved c =
    let ps = c.loop-at.parents.items in
    let inv = c.loop-at.invariant in
    let up : c.index-in-loop-at.result.now ≡ get_or ps c.loop-at.at 0 = get_or_read ps c.loop-at.at c.index-in-loop-at.result.now inv.within c.index-in-loop-at.ensures 0 in
    let here : c.index.result.now ≡ get_or ps c.loop-at.at 0 = get_or_read ps c.loop-at.at c.index.result.now inv.within c.index.ensures 0 in
    let low = inv.renewed.forest c.loop-at.at inv.within in
    let inside : c.index-in-loop-at.result.now < length ps = omega (arith, low, up, inv.within) in
    let above : c.index-above.result.now ≡ get_or ps c.index-in-loop-at.result.now 0 = get_or_read ps c.index-in-loop-at.result.now c.index-above.result.now inside c.index-above.ensures 0 in
    let t = turned c.args.parents.now.items ps c.args.from c.loop-at.at c.index-above.result.now inv.renewed inv.within inv.leads
    (λ e. c.loop-at-test.true (here ∙ e)) (above ∙ ap (λ k. get_or ps k 0) up) in
    record { renewed = t.0; within = t.1; leads = t.2 }
