use Rattle.std.proofs.Common.{sym, ap, ◌∙◌}
use Rattle.sci_forms.specs.declared.spec.Spec.{Spec}
use Rattle.sci_net.specs.declared.Wire.{Wire}
use Rattle.sci_net.specs.Parts.{spec_of}
use Rattle.sci_ranges_refined.specs.Sums.{shifts_right}
use Rattle.sci_ranges_marks.specs.View.{marks_of}
use Rattle.sci_ranges_sums.proofs.Leaked.{shift_input}
use Rattle.sci_ranges_sums.proofs.leaking.leak_at.Goals as goal

pub places_of-requires-clause-shifts : goal.places_of-requires-clause-shifts
places_of-requires-clause-shifts c =
    let n = c.args.net.now in
    ap (λ (s : Spec). shifts_right s) (c.spec.ensures.value ∙ ap (λ (w : Wire). spec_of n w.block) c.wire-shift.ensures)
    ∙ (shift_input n (marks_of c.args.marks.now) c.args.block c.args.l c.well_formed-2.ensures c.requires (sym c.loses.ensures ∙ c.if-not-loses.false)).1
