use Rattle.std.proofs.Common.{arith, sym, ap, ◌∙◌}
use Rattle.sci_forms.specs.declared.spec.Spec.{Spec}
use Rattle.sci_net.specs.Parts.{spec_of}
use Rattle.sci_forms.specs.Form.{reads_mask}
use Rattle.sci_cgen_base.proofs.TextLemmas.{where_false}
use Rattle.sci_cgen_sources.proofs.RowLemmas.{mask_fits}
use Rattle.sci_cgen_sources.proofs.row_texts.push_mask.Goals as goal

pub returns-else-reads_mask : goal.returns-else-reads_mask
returns-else-reads_mask c =
    where_false _ _ _ (ap (λ (s : Spec). reads_mask s.kind) (sym c.spec.ensures.value) ∙ sym c.reads_mask.ensures ∙ c.if-reads_mask.false)

pub overflow_cast-mask : goal.overflow_cast-mask
overflow_cast-mask c =
    let small =
    mask_fits c.spec.result.now (spec_of c.args.net.now c.args.entry.now.block) c.args.entry.now.mask c.spec.ensures.value c.spec.ensures.is_typed
    (sym c.reads_mask.ensures ∙ c.if-reads_mask.true) c.requires.mask in
    omega (arith, small)
