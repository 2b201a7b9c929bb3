use Rattle.std.proofs.Common.{◌+◌, ◌≤◌, ap, sym, subst}
use Rattle.sci_net.specs.Net.{all_elements}
use Rattle.sci_span.specs.declared.span.Span.{Span}
use Rattle.sci_places.proofs.Outputs.{block_within}
use Rattle.sci_store.specs.Frame.{Fixed}
use Rattle.sci_store.proofs.Evaluating.{place_here}
use Rattle.sci_store.proofs.block.place.Goals as goal

pub returns-clause-place : goal.returns-clause-place
returns-clause-place c =
    place_here c.args.frame.now c.args.block c.frame.inside.places _ c.well_formed-2.ensures c.requires
    (ap (λ (f : Fixed). f.layout) c.frame.view_is) c.outs.ensures

pub returns-clause-within : goal.returns-clause-within
returns-clause-within c =
    let n = c.args.frame.now.net in
    subst (λ (s : Span). s.start + s.len ≤ all_elements n.specs)
    (sym (place_here c.args.frame.now c.args.block c.frame.inside.places _ c.well_formed-2.ensures c.requires
    (ap (λ (f : Fixed). f.layout) c.frame.view_is) c.outs.ensures))
    (block_within n c.args.block c.requires)
