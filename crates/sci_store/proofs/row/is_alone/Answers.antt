use Rattle.std.proofs.Common.{◌≡◌, ◌↔◌, ◌-◌, true, List, length, get_or, ap, sym, subst, ◌∙◌, arith, true≢false}
use Rattle.sci_forms.specs.Form.{is_sync, is_sensor}
use Rattle.sci_net.proofs.Numbered.{numbered_read}
use Rattle.sci_span.specs.declared.place.Place.{Place}
use Rattle.sci_span.specs.Values.{IsLone, no_place}
use Rattle.sci_places.specs.Layout.{Layout, place_at}
use Rattle.sci_store.specs.declared.seats.Seat.{Seat}
use Rattle.sci_store.specs.Frame.{Fixed, seat_of}
use Rattle.sci_store.proofs.Listing.{alone_else}
use Rattle.sci_store.proofs.row.is_alone.Goals as goal
use Rattle.sci_store.proofs.row.is_alone.Goals.{then-is_sync, else-is_sync}

pub returns-else-is_sensor : goal.returns-else-is_sensor
returns-else-is_sensor c =
    let f = c.args.frame.now in
    let b = c.args.block in
    let layout = ap (λ (g : Fixed). g.layout) c.frame.view_is in
    let blocks : c.blocks-else-is_sensor.result.now ≡ c.args.frame.now.layout.blocks = c.blocks-else-is_sensor.ensures ∙ ap (λ (l : Layout). l.blocks) layout in
    let specs = ap (λ (g : Fixed). length g.net.specs) c.frame.view_is in
    let each = c.frame.invariant.layout.one_each in
    let long = ap (λ (l : Layout). length l.blocks) layout in
    let place : c.index-blocks-block.result ≡ place_at c.args.frame.now.layout c.args.block =
    numbered_read no_place c.args.frame.now.layout.blocks c.args.block c.index-blocks-block.result c.requires.least (omega (arith, c.requires.most, each, long, specs))
    (subst (λ (ps : List Place). c.index-blocks-block.result ≡ get_or ps (c.args.block - 1) c.index-blocks-block.result) blocks c.index-blocks-block.is) in
    let lone = subst (λ (p : Place). (c.is_lone.result ≡ true) ↔ IsLone p) place c.is_lone.ensures in
    let kind : c.seat-kind.result.kind ≡ (seat_of c.args.frame.now c.args.block).kind = ap (λ (s : Seat). s.kind) c.seat-kind.ensures in
    elim c.if-is_sync.branch [
      | then-is_sync w ↦ absurd (true≢false (sym w.if-is_sync.true ∙ (sym w.value-is ∙ c.if-is_sensor.false)))
      | else-is_sync w ↦ alone_else c.args.frame.now c.args.block c.is_lone.result
          (ap is_sync (sym kind) ∙ (sym c.is_sync.ensures ∙ w.if-is_sync.false))
          (ap is_sensor (sym kind) ∙ (sym w.is_sensor.ensures ∙ (sym w.value-is ∙ c.if-is_sensor.false))) lone
    ]
