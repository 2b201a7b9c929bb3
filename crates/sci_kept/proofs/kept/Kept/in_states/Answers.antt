use Rattle.std.proofs.Common.{ap, sym, subst, ◌∙◌, length}
use Rattle.sci_net.specs.Parts.{Parts}
use Rattle.sci_places.specs.Flat.{IsWhole}
use Rattle.sci_kept.proofs.kept.Kept.in_states.Goals as goal

pub of-requires-clause-values : goal.of-requires-clause-values
of-requires-clause-values g c = subst (λ (n : Parts). IsWhole n c.args.values.items) (sym c.in_ok-frame.ensures.net) c.requires.values

pub of-requires-clause-cursors : goal.of-requires-clause-cursors
of-requires-clause-cursors g c = c.requires.cursors ∙ ap (λ (n : Parts). length n.specs) (sym c.in_ok-frame.ensures.net)

pub returns-clause-untold : goal.returns-clause-untold
returns-clause-untold g c = let is = c.in_ok-store.ensures in record { idle = is.idle; lines = is.lines; sum = is.sum }
