use Rattle.std.proofs.Common.{◌≡◌, ◌<◌, ◌^◌, All, ap, sym, subst, ◌∙◌, arith, map}
use Rattle.sci_span.specs.declared.span.Span.{Span}
use Rattle.sci_places.specs.Flat.{start_of}
use Rattle.sci_span.specs.declared.place.Place.{Place}
use Rattle.sci_places.proofs.Outputs.{block_within}
use Rattle.sci_cgen_base.proofs.LaidLemmas.{spans_small, laid_block}
use Rattle.sci_cgen_base.proofs.block_layouts.block_layout.Goals as goal

pub starts-requires : goal.starts-requires
starts-requires c =
    let n = c.args.net.now in
    let b = c.args.block in
    subst (All (λ (s : Span). s.start < 2 ^ 32)) (sym (c.ins.ensures ∙ ap (λ (p : Place). p.ins) (c.requires.places.places b c.requires.block)))
    (spans_small n b c.well_formed-2.ensures c.requires.block)

pub overflow_cast-outs : goal.overflow_cast-outs
overflow_cast-outs c =
    let b = c.args.block in
    let within = block_within c.args.net.now b c.requires.block in
    let begin : c.outs-outs.result.start ≡ start_of c.args.net.now b =
    ap (λ (s : Span). s.start) (c.outs-outs.ensures ∙ ap (λ (p : Place). p.outs) (c.requires.places.places b c.requires.block)) in
    omega (arith, within, begin, c.well_formed-2.ensures.small)

pub returns : goal.returns
returns c =
    let n = c.args.net.now in
    let b = c.args.block in
    let place = c.requires.places.places b c.requires.block in
    laid_block n b _ _ _ (c.in_ok-ins.ensures ∙ ap (map (λ (s : Span). s.start)) (c.ins.ensures ∙ ap (λ (p : Place). p.ins) place))
    (ap (λ (s : Span). s.start) (c.outs-outs.ensures ∙ ap (λ (p : Place). p.outs) place)) c.requires.state
