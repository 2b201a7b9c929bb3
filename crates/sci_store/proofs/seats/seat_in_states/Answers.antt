use Rattle.std.proofs.Common.{◌≡◌, ◌<◌, ◌+◌, length, true, refl, ap, sym, subst, arith}
use Rattle.sci_forms.specs.declared.spec.Spec.{Spec}
use Rattle.sci_forms.specs.Typed.{typed}
use Rattle.sci_net.specs.Parts.{rows_of}
use Rattle.sci_bank.proofs.LibraryLemmas.{Holds-full, in_order-with_bank}
use Rattle.sci_store.specs.declared.seats.Seat.{Seat}
use Rattle.sci_store.specs.Seating.{begun}
use Rattle.sci_store.proofs.Seated.{seating_next, sources_next, sources_small, begun_is}
use Rattle.sci_store.proofs.seats.seat_in_states.Goals as goal

pub add_in_state-requires-clause-is_typed : goal.add_in_state-requires-clause-is_typed
add_in_state-requires-clause-is_typed g c =
    let n = c.args.net.now in
    let k = c.loop-block.block in
    let l : k < length n.specs = omega (arith, c.loop-block-test.true, c.len-block-end.ensures) in
    let is =
    begun_is n c.args.states.now k c.index-states-block.result c.spec-spec.result.now _ (omega (arith, l, c.requires.one_each)) c.index-states-block.is
    c.spec-spec.ensures.value (ap (λ x. record c.spec-spec.result.now { state = x }) c.deref.ensures.value) in
    subst (λ (s : Spec). typed s ≡ true) (sym is) (c.requires.is_typed (k + 1) (record { least = omega arith; most = omega (arith, l) }))

pub overflow_add-first_source : goal.overflow_add-first_source
overflow_add-first_source g c =
    let n = c.args.net.now in
    let k = c.loop-block.block in
    let l : k < length n.specs = omega (arith, c.loop-block-test.true, c.len-block-end.ensures) in
    let next = sources_next n k l in
    let small = sources_small n (k + 1) c.well_formed-2.ensures in
    let i = c.loop-block.invariant.first in
    let count = c.source_count-first_source.ensures in
    omega (arith, next, small, i, count)

pub loop-block-preserved : goal.loop-block-preserved
loop-block-preserved g c =
    let n = c.args.net.now in
    let k = c.loop-block.block in
    let spec = c.spec-spec.result.now in
    let specs = begun n (rows_of c.args.states.now) in
    let l : k < length n.specs = omega (arith, c.loop-block-test.true, c.len-block-end.ensures) in
    let s : Spec = record spec { state = c.deref.result.now } in
    let is =
    begun_is n c.args.states.now k c.index-states-block.result spec s (omega (arith, l, c.requires.one_each)) c.index-states-block.is
    c.spec-spec.ensures.value (ap (λ x. record spec { state = x }) c.deref.ensures.value) in
    let x : Seat = record { kind = spec.kind; slot = c.in_ok-slot.slot; first_source = c.loop-block.first_source } in
    seating_next n specs k c.loop-block.first_source c.loop-block.seats.items _ c.push.new.self.items _ x s c.loop-block.invariant c.well_formed-2.ensures l refl
    c.in_ok-slot.ensures.added.0 refl c.in_ok-push.ensures.items c.in_ok-slot.ensures.added.1 is (ap (λ (t : Spec). t.kind) c.spec-spec.ensures.value)
    _ (ap (λ m. c.loop-block.first_source + m) c.source_count-first_source.ensures) (λ _. c.in_ok-slot.ensures.full)
    (in_order-with_bank _ _ spec.kind _ (Holds-full _ spec.kind c.loop-block.invariant.full) refl c.in_ok-slot.ensures.added.1)
