use Rattle.std.proofs.Common.{length, ap, arith}
use Rattle.sci_forms.specs.declared.spec.Spec.{Spec}
use Rattle.sci_ranges_marks.proofs.Tested.{ins_few}
use Rattle.sci_ranges_marks.proofs.marks.RowMarks.shows_at.Goals as goal

pub overflow_add-p : goal.overflow_add-p
overflow_add-p c =
    let few = ins_few c.spec-spec.result.now c.spec-spec.ensures.is_typed in
    let same = ap (λ (s : Spec). length s.ins) c.spec-spec.ensures.value in
    omega (arith, few, same, c.requires.input.most)
