use Rattle.std.proofs.Common.{◌≡◌, ◌<◌, length, arith, subst, ap}
use Rattle.sci_infer.specs.declared.values.Resolution.{Resolution}
use Rattle.sci_infer.specs.Typing.{Decides}
use Rattle.sci_infer.specs.PortParts.{parts_in, AreTied}
use Rattle.sci_infer.proofs.Places.{placed}
use Rattle.sci_infer.proofs.Wires.{part_at}
use Rattle.sci_infer.proofs.infer.Goals as goal

pub conflict-requires : goal.conflict-requires
conflict-requires c =
    let n = c.args.flat in
    let decided = subst (λ (v : Resolution). Decides (parts_in n) (AreTied n) v) c.in-Conflict.is c.in_ok-at.ensures in
    let long : length c.in_ok-layout.layout.parts.items ≡ length (parts_in n) = ap length c.in_ok-layout.ensures.parts in
    let inside : c.in-Conflict.at < length c.in_ok-layout.layout.parts.items = (let w = decided.1 in omega (arith, w, long)) in
    let p = placed n c.in-Conflict.at c.index.result.now (part_at n c.in_ok-layout.layout c.in-Conflict.at c.index.result.now c.in_ok-layout.ensures inside c.index.ensures) in
    record { least = p.block.least; most = p.block.most }

pub open-requires : goal.open-requires
open-requires c =
    let n = c.args.flat in
    let decided = subst (λ (v : Resolution). Decides (parts_in n) (AreTied n) v) c.in-Open.is c.in_ok-at.ensures in
    let long : length c.in_ok-layout.layout.parts.items ≡ length (parts_in n) = ap length c.in_ok-layout.ensures.parts in
    let inside : c.in-Open.at < length c.in_ok-layout.layout.parts.items = (let w = decided.0 in omega (arith, w, long)) in
    let p = placed n c.in-Open.at c.index-in-Open.result.now (part_at n c.in_ok-layout.layout c.in-Open.at c.index-in-Open.result.now c.in_ok-layout.ensures inside c.index-in-Open.ensures) in
    record { least = p.block.least; most = p.block.most }
