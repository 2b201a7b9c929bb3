use Rattle.sci_bank.proofs.LibraryLemmas.{Holds-full, in_order-with_bank}
use Rattle.std.proofs.Common.{◌≡◌, ◌≤◌, ℤ, List, take, length, refl, ap, sym, ◌∙◌, arith, subst}
use Rattle.std.proofs.lemmas.List.{length-take-le}
use Rattle.sci_forms.specs.Form.{has_state}
use Rattle.sci_kinds.specs.Asks.{IsMask}
use Rattle.sci_net.specs.Parts.{spec_of}
use Rattle.sci_net.proofs.Numbered.{numbered_read}
use Rattle.sci_reaction.specs.Equations.{input_in, all_inputs}
use Rattle.sci_places.specs.Flat.{values_at}
use Rattle.sci_store.specs.declared.seats.Seat.{Seat}
use Rattle.sci_store.specs.declared.marks.Mark.{Mark}
use Rattle.sci_store.specs.Marks.{idle, mark_at}
use Rattle.sci_store.specs.Store.{Standing}
use Rattle.sci_store.proofs.Evaluating.{call_here}
use Rattle.sci_store.proofs.Updating.{stepped_with_state, stepped_without_state, state_inputs}
use Rattle.sci_store.proofs.store.Store.update_state.Given.{Over}
use Rattle.sci_store.proofs.store.Store.update_state.Goals as goal
use Rattle.sci_store.proofs.store.Store.update_state.Goals.{After-has_state, After-deref}

kind_is : (g : Over) (c : After-has_state g) → c.has_state.result ≡ has_state (spec_of c.args.frame.now.net c.args.block).kind
kind_is g c =
    c.has_state.ensures
    ∙ ap has_state (ap (λ (s : Seat). s.kind) c.seat-seat.ensures ∙ (c.well_formed-2.ensures.seated c.args.block c.requires.block).kind)

pub returns-then-not-has_state : goal.returns-then-not-has_state
returns-then-not-has_state g c =
    let at = (goal.at.returns-then-not-has_state g c).After-has_state in
    stepped_without_state c.args.frame.now c.args.self.now _ c.args.block c.requires.seated (sym (kind_is g at) ∙ c.if-not-has_state.true) c.requires.state

module _ (g : Over) (c : After-deref g) where
  mask_is : c.index.result.now.mask ≡ (mark_at c.args.self.now.marks c.args.block).mask
  mask_is =
      let same = c.self.view_is ∙ c.gather-count.ensures.same in
      let long = ap (λ (s : Standing). length s.marks) same in
      ap (λ (m : Mark). m.mask)
      (numbered_read idle c.self.inside.marks.items c.args.block c.index.result.now c.requires.block.least (omega (arith, c.requires.block.most, c.requires.store.marks, long)) c.index.ensures
      ∙ ap (λ (s : Standing). mark_at s.marks c.args.block) same)

  inputs : take c.gather-count.result c.deref.result.now ≡ all_inputs (spec_of c.args.frame.now.net c.args.block) (input_in c.args.frame.now.net (values_at c.args.frame.now.net c.args.self.now.values) c.args.block)
  inputs = ap (take c.gather-count.result) (c.deref.ensures.value ∙ ap (λ (s : Standing). s.room) c.self.view_is) ∙ c.gather-count.ensures.gathered

pub slice_bounds-update-end : goal.slice_bounds-update-end
slice_bounds-update-end g c =
    let room = ap (λ (v : List ℤ). length v) (c.deref.ensures.value ∙ ap (λ (s : Standing). s.room) c.self.view_is) in
    let within : c.gather-count.result ≤ length c.deref.result.now = omega (arith, c.gather-count.ensures.within, room) in
    sym (length-take-le c.gather-count.result c.deref.result.now within)

pub update-requires-clause-call : goal.update-requires-clause-call
update-requires-clause-call g c =
    let at = goal.at.update-requires-clause-call g c in
    let f = c.args.frame.now in
    call_here f _ c.requires.seated c.args.block c.requires.block c.seat-seat.result c.seat-seat.ensures c.index.result.now.mask _
    (subst (IsMask (spec_of f.net c.args.block)) (sym (mask_is g at.After-deref)) c.requires.mask)
    (state_inputs f c.args.self.now c.args.block _ c.well_formed-2.ensures c.requires.block (sym (kind_is g at.After-has_state) ∙ c.if-not-has_state.false) c.requires.values (inputs g at.After-deref))

pub returns : goal.returns
returns g c =
    let at = (goal.at.returns g c).After-deref in
    stepped_with_state c.args.frame.now c.args.self.now c.gather-count.new.self _ _ c.args.block c.seat-seat.result c.index.result.now.mask _ c.requires.seated c.requires.block
    c.seat-seat.ensures (mask_is g at) c.update.ensures.changed (inputs g at) c.update.ensures.full
    (in_order-with_bank _ _ c.seat-seat.result.kind _ (Holds-full _ c.seat-seat.result.kind c.requires.seated.full) refl c.update.ensures.changed) c.gather-count.ensures.same c.gather-count.ensures.room
