use Rattle.std.proofs.Common.{◌<◌, ◌^◌, ◌+◌, ◌∙◌, List, ap, subst, sym, arith}
use Rattle.sci_net.specs.Parts.{IsBlock}
use Rattle.sci_span.specs.declared.span.Span.{Span}
use Rattle.sci_span.specs.declared.place.Place.{Place}
use Rattle.sci_span.specs.Values.{spans_length}
use Rattle.sci_places.proofs.Inputs.{inputs_law}
use Rattle.sci_places.proofs.Laid.{LaidTo, spans_small, max_is, laid_next, laid_all}
use Rattle.sci_places.proofs.places.Places.new.Goals as goal

pub spans_length-requires : goal.spans_length-requires
spans_length-requires c =
    let b = c.loop-block.block + 1 in
    let block : IsBlock c.args.net.now b = record { least = omega arith; most = omega (arith, c.loop-block-test.true, c.len-block-end.ensures) } in
    subst (λ (ss : List Span). spans_length ss < 2 ^ 63) (sym c.spans.ensures)
    (spans_small c.args.net.now b c.in_ok-place.place c.well_formed-2.ensures block c.in_ok-place.ensures)

pub loop-block-preserved : goal.loop-block-preserved
loop-block-preserved c =
    let n = c.args.net.now in
    let b = c.loop-block.block + 1 in
    let block : IsBlock n b = record { least = omega arith; most = omega (arith, c.loop-block-test.true, c.len-block-end.ensures) } in
    let long = c.spans_length.ensures ∙ (ap spans_length c.spans.ensures
    ∙ (ap (λ (p : Place). spans_length p.ins) c.in_ok-place.ensures ∙ inputs_law.long n b c.well_formed-2.ensures block)) in
    subst (LaidTo n b c.push.new.self.items) (sym (c.max-longest.ensures ∙ max_is c.loop-block.longest c.spans_length.result))
    (laid_next n c.loop-block.block _ c.loop-block.longest c.in_ok-place.place c.loop-block.invariant c.in_ok-place.ensures c.push.new.self.items
    c.spans_length.result c.in_ok-push.ensures.items long)

pub returns : goal.returns
returns c = laid_all c.args.net.now c.loop-block.block _ c.loop-block.longest (omega (arith, c.loop-block-test.false, c.len-block-end.ensures))
    c.loop-block.invariant
