use Rattle.std.proofs.Common.{length, ap, sym, ◌∙◌}
use Rattle.sci_forms.specs.declared.spec.Spec.{Spec}
use Rattle.sci_forms.specs.Form.{is_sync}
use Rattle.sci_net.specs.Parts.{spec_of}
use Rattle.sci_save.proofs.Sources.{not_sync, ports_length}
use Rattle.sci_save.proofs.events.source_count.Goals as goal

pub returns-else-is_sync : goal.returns-else-is_sync
returns-else-is_sync c =
    let b = c.args.block in
    let s = spec_of c.args.net.now b in
    let e = c.spec-spec.ensures.value in
    ap (λ (t : Spec). t.evtout) e
    ∙ sym (ap length (not_sync b s (ap (λ (t : Spec). is_sync t.kind) (sym e) ∙ (sym c.is_sync.ensures ∙ c.if-is_sync.false))) ∙ ports_length b s.evtout)
