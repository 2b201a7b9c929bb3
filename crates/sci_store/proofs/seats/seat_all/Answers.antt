use Rattle.std.proofs.Common.{◌<◌, ◌+◌, length, refl, ap, sym, arith}
use Rattle.sci_forms.specs.declared.spec.Spec.{Spec}
use Rattle.sci_net.specs.Parts.{spec_of}
use Rattle.sci_bank.proofs.LibraryLemmas.{Holds-full, in_order-with_bank, kind_of-bank}
use Rattle.sci_store.specs.declared.seats.Seat.{Seat}
use Rattle.sci_store.proofs.Seated.{seating_next, sources_next, sources_small}
use Rattle.sci_store.proofs.seats.seat_all.Goals as goal

pub add-requires-clause-of_kind : goal.add-requires-clause-of_kind
add-requires-clause-of_kind g c =
    let i = c.loop-block.invariant in
    sym (kind_of-bank _ c.spec-spec.result.now.kind i.in_order (Holds-full _ c.spec-spec.result.now.kind i.full))

pub overflow_add-first_source : goal.overflow_add-first_source
overflow_add-first_source g c =
    let n = c.args.net.now in
    let k = c.loop-block.block in
    let l : k < length n.specs = omega (arith, c.loop-block-test.true, c.len-block-end.ensures) in
    let next = sources_next n k l in
    let small = sources_small n (k + 1) c.well_formed-2.ensures in
    let i = c.loop-block.invariant.first in
    let count = c.source_count-first_source.ensures in
    omega (arith, next, small, i, count)

pub loop-block-preserved : goal.loop-block-preserved
loop-block-preserved g c =
    let n = c.args.net.now in
    let k = c.loop-block.block in
    let s = c.spec-spec.result.now in
    let l : k < length n.specs = omega (arith, c.loop-block-test.true, c.len-block-end.ensures) in
    let x : Seat = record { kind = s.kind; slot = c.in_ok-slot.slot; first_source = c.loop-block.first_source } in
    seating_next n (spec_of n) k c.loop-block.first_source c.loop-block.seats.items _ c.push.new.self.items _ x s c.loop-block.invariant c.well_formed-2.ensures l refl
    c.in_ok-slot.ensures.added.0 refl c.in_ok-push.ensures.items c.in_ok-slot.ensures.added.1 c.spec-spec.ensures.value (ap (λ (t : Spec). t.kind) c.spec-spec.ensures.value)
    _ (ap (λ m. c.loop-block.first_source + m) c.source_count-first_source.ensures) c.in_ok-slot.ensures.full
    (in_order-with_bank _ _ s.kind _ (Holds-full _ s.kind c.loop-block.invariant.full) refl c.in_ok-slot.ensures.added.1)
