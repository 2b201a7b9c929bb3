use Rattle.std.proofs.Common.{◌≡◌, ◌∙◌, map, sym, subst}
use Rattle.std.proofs.lemmas.Bool.{false≢true}
use Rattle.sci_span.specs.Singles.{single, ArePlacesOf}
use Rattle.sci_span.proofs.Lone.{lens_one, none_longer}
use Rattle.sci_span.proofs.inputs.InputSpans.singles.Goals as goal

pub returns-in-Some-clause-none : goal.returns-in-Some-clause-none
returns-in-Some-clause-none c =
    let spans = c.args.self.now in
    let ks = c.in-Some.places.items in
    let is : spans ≡ map single ks = sym c.self.view_is ∙ subst (ArePlacesOf c.self.inside.spans.items) c.in-Some.is c.self.invariant in
    (λ e. absurd (false≢true (sym e)), λ w. absurd (none_longer spans (lens_one spans ks is) w))
