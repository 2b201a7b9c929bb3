use Rattle.std.proofs.Common.{◌≡◌, ◌<◌, ◌+◌, length, ap, subst, ◌∙◌, arith}
use Rattle.sci_net.specs.Parts.{Parts, IsBlock, spec_of}
use Rattle.sci_places.specs.Layout.{place_at}
use Rattle.sci_store.specs.Frame.{Fixed, IsFrame}
use Rattle.sci_store.proofs.Framed.{len_read}
use Rattle.sci_store.proofs.Stored.{held_more, held_whole}
use Rattle.sci_store.proofs.store.all_held.Goals as goal

pub loop-block-preserved : goal.loop-block-preserved
loop-block-preserved c =
    let f = c.args.frame.now in
    let k = c.loop-block.block in
    let net = ap (λ (g : Fixed). g.net) c.frame.view_is in
    let count = ap (λ (m : Parts). length m.specs) net in
    let l : k < length f.net.specs = omega (arith, c.loop-block-test.true, c.len-block-end.ensures, count) in
    let block : IsBlock f.net (k + 1) = record { least = omega arith; most = omega (arith, l) } in
    let place = c.outs-count.ensures ∙ ap (λ (g : Fixed). (place_at g.layout (k + 1)).outs) c.frame.view_is in
    held_more f.net k c.outs-count.result.len c.loop-block.values.items c.push_held.new.values.items c.spec.result.now c.loop-block.invariant l
    (c.spec.ensures.value ∙ ap (λ (m : Parts). spec_of m (k + 1)) net)
    (len_read f (k + 1) c.outs-count.result (subst IsFrame c.frame.view_is c.frame.invariant) block place)
    c.in_ok-push_held.ensures

pub returns-clause-whole : goal.returns-clause-whole
returns-clause-whole c =
    let count = ap (λ (g : Fixed). length g.net.specs) c.frame.view_is in
    let all : c.loop-block.block ≡ length c.args.frame.now.net.specs = omega (arith, c.loop-block-test.false, c.loop-block.auto.block-end, c.len-block-end.ensures, count) in
    held_whole c.args.frame.now.net c.loop-block.block c.loop-block.values.items all c.loop-block.invariant
