use Rattle.std.proofs.Common.{ap, ◌∙◌, sym, subst, Err}
use Rattle.serde_json.specs.Read.{read}
use Rattle.sci_json.proofs.Texts.{no_document, Answered, answered}
use Rattle.sci_json.proofs.document.Document.parse.Goals as goal

pub returns-in-Err-Invalid : goal.returns-in-Err-Invalid
returns-in-Err-Invalid c = record {
  ok = tt;
  memory = λ e. absurd (cc);
  invalid = λ e utf8. ap read (sym c.in-Ok.ensures.cases.0) ∙ no_document c.in-Ok.text.now (c.parse.ensures.invalid (c.in-Err-Invalid.is ∙ ap Err c.in-Err-Invalid.field-0-is));
}

pub invariant_of-result : goal.invariant_of-result
invariant_of-result c =
    let text = c.in-Ok.text.now in
    let tape = c.in-Ok-parse.tape in
    let ok = c.in-Ok-parse.ensures.ok in
    (subst (Answered text tape) c.if-is_readable.true (answered text tape c.is_readable.result ok.0 ok.1 (λ j is. c.is_readable.ensures j (c.nodes.ensures.tokens ∙ is)))).0

pub returns-then-is_readable-clause-ok : goal.returns-then-is_readable-clause-ok
returns-then-is_readable-clause-ok c =
    let text = c.in-Ok.text.now in
    let tape = c.in-Ok-parse.tape in
    let ok = c.in-Ok-parse.ensures.ok in
    let utf8 = c.in-Ok.ensures.cases in
    let is = (subst (Answered text tape) c.if-is_readable.true (answered text tape c.is_readable.result ok.0 ok.1 (λ j is. c.is_readable.ensures j (c.nodes.ensures.tokens ∙ is)))).1 in
    (utf8.1, ap read (sym utf8.0) ∙ is)

pub returns-clause-invalid : goal.returns-clause-invalid
returns-clause-invalid c e utf8 =
    let text = c.in-Ok.text.now in
    let tape = c.in-Ok-parse.tape in
    let ok = c.in-Ok-parse.ensures.ok in
    let is = subst (Answered text tape) c.if-is_readable.false (answered text tape c.is_readable.result ok.0 ok.1 (λ j is. c.is_readable.ensures j (c.nodes.ensures.tokens ∙ is))) in
    ap read (sym c.in-Ok.ensures.cases.0) ∙ is
