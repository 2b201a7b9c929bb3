use Rattle.std.proofs.Common.{Some, None, ap, ◌∙◌, option_and_then}
use Rattle.serde_json.specs.Find.{as_i64, as_number}
use Rattle.sci_json.specs.View.{view}
use Rattle.sci_json.proofs.Fields.{number_found}
use Rattle.sci_json.proofs.document.value.Value.as_i64.Goals as goal

pub returns-in-Some : goal.returns-in-Some
returns-in-Some c =
    c.whole_number.ensures
    ∙ ap (option_and_then as_i64) (number_found c.self.inside.element c.self.invariant (Some c.in-Some.text.now) c.in-Some.ensures ∙ ap (λ ts. as_number (view ts)) c.self.view_is)

pub returns-in-None : goal.returns-in-None
returns-in-None c = ap (option_and_then as_i64) (number_found c.self.inside.element c.self.invariant None c.in-None.ensures ∙ ap (λ ts. as_number (view ts)) c.self.view_is)
