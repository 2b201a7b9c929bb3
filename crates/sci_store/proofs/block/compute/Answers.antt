use Rattle.std.proofs.Common.{ap, sym, ◌∙◌, subst, refl}
use Rattle.sci_places.proofs.Outputs.{outputs_law}
use Rattle.sci_bank.proofs.LibraryLemmas.{in_order-with_bank, Holds-full}
use Rattle.sci_reaction.specs.Equations.{AreInRange}
use Rattle.sci_places.specs.Flat.{values_at}
use Rattle.sci_store.proofs.Evaluating.{call_here, computed_here, room_here, fills_behind, written_here, in_range_behind, seated_after}
use Rattle.sci_store.proofs.block.compute.Goals as goal

pub out-requires-clause-call : goal.out-requires-clause-call
out-requires-clause-call g c =
    call_here c.args.frame.now _ c.requires.seated c.args.block c.requires.block c.seat-seat.result c.seat-seat.ensures c.args.mask c.args.ins.now
    c.requires.mask c.requires.filled

pub out-requires-clause-room : goal.out-requires-clause-room
out-requires-clause-room g c =
    room_here c.args.frame.now _ c.requires.seated c.args.block c.requires.block c.seat-seat.result c.seat-seat.ensures c.place-place.result
    c.place-place.ensures.place c.args.values.now c.requires.values

pub returns-clause-computed : goal.returns-clause-computed
returns-clause-computed g c =
    computed_here c.args.frame.now _ c.requires.seated c.args.block c.requires.block c.seat-seat.result c.seat-seat.ensures c.args.mask c.args.ins.now
    c.out.new.outs c.args.values.now _ _ c.out.result
    (written_here c.args.frame.now _ c.requires.seated c.args.block c.requires.block c.seat-seat.result c.seat-seat.ensures c.place-place.result
    c.place-place.ensures.place c.args.values.now c.requires.values c.out.new.outs c.out.ensures.in_range)
    c.out.ensures.answer

pub returns-clause-others : goal.returns-clause-others
returns-clause-others g c d inside other =
    ap (λ vs. values_at c.args.frame.now.net vs d)
    (written_here c.args.frame.now _ c.requires.seated c.args.block c.requires.block c.seat-seat.result c.seat-seat.ensures c.place-place.result
    c.place-place.ensures.place c.args.values.now c.requires.values c.out.new.outs c.out.ensures.in_range)
    ∙ outputs_law.kept c.args.frame.now.net c.args.values.now c.out.new.outs c.args.block d c.requires.whole c.requires.block inside (λ same. other (sym same))
    (fills_behind c.args.frame.now _ c.requires.seated c.args.block c.requires.block c.seat-seat.result c.seat-seat.ensures c.place-place.result
    c.place-place.ensures.place c.args.values.now c.requires.values c.out.new.outs c.out.ensures.in_range).enough

pub returns-clause-values : goal.returns-clause-values
returns-clause-values g c =
    subst (λ vs. AreInRange c.args.frame.now.net (values_at c.args.frame.now.net vs))
    (sym (written_here c.args.frame.now _ c.requires.seated c.args.block c.requires.block c.seat-seat.result c.seat-seat.ensures c.place-place.result
    c.place-place.ensures.place c.args.values.now c.requires.values c.out.new.outs c.out.ensures.in_range))
    (in_range_behind c.args.frame.now.net c.args.values.now c.out.new.outs c.args.block c.requires.whole c.requires.block c.requires.values
    (fills_behind c.args.frame.now _ c.requires.seated c.args.block c.requires.block c.seat-seat.result c.seat-seat.ensures c.place-place.result
    c.place-place.ensures.place c.args.values.now c.requires.values c.out.new.outs c.out.ensures.in_range))

pub returns-clause-seated : goal.returns-clause-seated
returns-clause-seated g c =
    seated_after c.args.frame.now _ c.requires.seated c.args.block _ c.seat-seat.result c.seat-seat.ensures c.out.ensures.changed
    (in_order-with_bank _ _ c.seat-seat.result.kind _ (Holds-full _ c.seat-seat.result.kind c.requires.seated.full) refl c.out.ensures.changed)
