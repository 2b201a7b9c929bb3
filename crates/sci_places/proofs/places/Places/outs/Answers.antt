use Rattle.std.proofs.Common.{ap, sym}
use Rattle.sci_places.specs.Layout.{Layout}
use Rattle.sci_span.specs.declared.place.Place.{Place}
use Rattle.sci_places.proofs.Placed.{place_kept}
use Rattle.sci_places.proofs.places.Places.outs.Goals as goal

pub returns : goal.returns
returns c =
    sym (ap (λ (p : Place). p.outs)
    (place_kept c.self.inside.blocks.items c.args.self.now c.args.block c.index.result.now (ap (λ (l : Layout). l.blocks) c.self.view_is)
    c.requires.least c.requires.most c.index.ensures))
