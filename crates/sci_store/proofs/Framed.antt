-- What is read of a frame.
use Rattle.std.proofs.Common.{◌≡◌, ℕ, ◌-◌, ◌≤◌, length, get_or, ap, ◌∙◌, arith}
use Rattle.sci_net.specs.Parts.{IsBlock, spec_of}
use Rattle.sci_net.proofs.Numbered.{numbered_read}
use Rattle.sci_forms.specs.Ports.{total}
use Rattle.sci_span.specs.declared.span.Span.{Span}
use Rattle.sci_places.specs.Flat.{start_of}
use Rattle.sci_places.specs.Layout.{place_at}
use Rattle.sci_span.specs.declared.place.Place.{Place}
use Rattle.sci_store.specs.declared.seats.Seat.{Seat}
use Rattle.sci_store.specs.Frame.{Fixed, IsFrame, no_seat}

-- the kind at a block's seat is the block's
pub kind_read : (f : Fixed) (b : ℕ) (s : Seat) → IsFrame f → 1 ≤ b → b ≤ length f.net.specs → s ≡ get_or f.seats (b - 1) s → s.kind ≡ (spec_of f.net b).kind
kind_read f b s h least most e =
    let block : IsBlock f.net b = record { least = least; most = most } in
    ap (λ (t : Seat). t.kind) (numbered_read no_seat f.seats b s least (omega (arith, most, h.one_seat_each)) e) ∙ (h.seated b block).kind

-- where a block's values lie
pub start_read : (f : Fixed) (b : ℕ) (s : Span) → IsFrame f → IsBlock f.net b → s ≡ (place_at f.layout b).outs → s.start ≡ start_of f.net b
start_read f b s h block e = ap (λ (t : Span). t.start) e ∙ ap (λ (p : Place). p.outs.start) (h.layout.places b block)

pub len_read : (f : Fixed) (b : ℕ) (s : Span) → IsFrame f → IsBlock f.net b → s ≡ (place_at f.layout b).outs → s.len ≡ total (spec_of f.net b).outs
len_read f b s h block e = ap (λ (t : Span). t.len) e ∙ ap (λ (p : Place). p.outs.len) (h.layout.places b block)
