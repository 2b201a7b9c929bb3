use Rattle.std.proofs.Common.{◌∙◌, sym, ap}
use Rattle.sci_forms.specs.declared.spec.Spec.{Spec}
use Rattle.sci_forms.specs.Form.{is_sync}
use Rattle.sci_inherit.proofs.live.is_wanted.Goals as goal

pub returns-else-not-is_sync : goal.returns-else-not-is_sync
returns-else-not-is_sync c =
    let b = c.args.block in
    let sync = sym (ap (λ (s : Spec). is_sync s.kind) c.spec.ensures.value) ∙ (sym c.is_sync.ensures ∙ c.if-not-is_sync.false) in
    record {
      source = λ other. absurd (other sync);
      live = λ s. ((λ h. (c.requires.live b).0 (c.has.ensures.0 h)), λ h. c.has.ensures.1 ((c.requires.live b).1 h));
    }
