use Rattle.std.proofs.Common.{◌≡◌, ◌∙◌, sym, ap, false, cond}
use Rattle.sci_kinds.specs.Table.{branch}
use Rattle.sci_net.specs.Parts.{spec_of}
use Rattle.sci_store.specs.declared.seats.Seat.{Seat}
use Rattle.sci_forms.specs.Form.{is_sync}
use Rattle.sci_store.proofs.Evaluating.{fills_here, kind_there, branch_taken}
use Rattle.sci_store.proofs.block.take_branch.Goals as goal

pub branch-lib-requires-clause-filled : goal.branch-lib-requires-clause-filled
branch-lib-requires-clause-filled g c =
    fills_here c.args.frame.now _ c.requires.seated c.args.block c.requires.block c.seat-seat.result c.seat-seat.ensures c.args.ins.now c.requires.filled

pub branch-lib-requires-clause-sync : goal.branch-lib-requires-clause-sync
branch-lib-requires-clause-sync g c =
    ap is_sync (kind_there c.args.frame.now _ c.seat-seat.result.kind c.requires.seated) ∙ sym c.if-is_sync.ensures

pub returns-then-is_sync : goal.returns-then-is_sync
returns-then-is_sync g c =
    branch_taken c.args.frame.now _ c.requires.seated c.args.block c.requires.block c.seat-seat.result c.seat-seat.ensures _ c.args.ins.now
    c.well_formed-2.ensures (sym c.if-is_sync.ensures) c.branch-lib.ensures

pub returns-else-is_sync : goal.returns-else-is_sync
returns-else-is_sync g c =
    let spec = spec_of c.args.frame.now.net c.args.block in
    let off : is_sync spec.kind ≡ false =
    ap is_sync (sym (ap (λ (s : Seat). s.kind) c.seat-seat.ensures ∙ (c.well_formed-2.ensures.seated c.args.block c.requires.block).kind)) ∙ sym c.if-is_sync.ensures in
    ap (λ t. cond t (branch spec c.args.ins.now) 0) (sym off)
