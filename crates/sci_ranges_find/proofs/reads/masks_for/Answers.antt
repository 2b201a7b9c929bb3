use Rattle.std.proofs.Common.{◌≡◌, true, false, sym, ap, ◌∙◌, rules}
use Rattle.sci_forms.specs.declared.spec.Spec.{Spec}
use Rattle.sci_forms.specs.Form.{reads_mask}
use Rattle.sci_net.specs.Parts.{spec_of}
use Rattle.sci_ranges_marks.specs.View.{marks_of}
use Rattle.sci_ranges_find.proofs.Entering.{masks_read, masks_any}
use Rattle.sci_ranges_find.proofs.reads.masks_for.Goals as goal

pub returns-then-reads_mask : goal.returns-then-reads_mask
returns-then-reads_mask c =
    let on : reads_mask (spec_of c.args.net.now c.args.block).kind ≡ true = ap (λ (s : Spec). reads_mask s.kind) (sym c.spec.ensures.value) ∙ (sym c.reads_mask.ensures ∙ c.if-reads_mask.true) in
    c.in_ok-masks.ensures ∙ masks_read c.args.net.now (marks_of c.args.marks.now) c.args.block on

pub returns : goal.returns
returns c =
    let off : reads_mask (spec_of c.args.net.now c.args.block).kind ≡ false = ap (λ (s : Spec). reads_mask s.kind) (sym c.spec.ensures.value) ∙ (sym c.reads_mask.ensures ∙ c.if-reads_mask.false) in
    c.in_ok-any.ensures.items_if_clones_equal (search rules) ∙ masks_any c.args.net.now (marks_of c.args.marks.now) c.args.block off
