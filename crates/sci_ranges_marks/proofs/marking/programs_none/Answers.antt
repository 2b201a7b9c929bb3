use Rattle.std.proofs.Common.{◌≡◌, true, false, get_or, sym, ap, ◌∙◌, arith, true≢false}
use Rattle.sci_base.specs.Lists.{truth_at}
use Rattle.sci_net.specs.Parts.{spec_of}
use Rattle.sci_ranges_reads.specs.Live.{may_program}
use Rattle.sci_ranges_marks.proofs.Marked.{none_more}
use Rattle.sci_ranges_marks.proofs.marking.programs_none.Goals.{else-truth_at-via-then-truth_at+else-may_program, else-truth_at-via-else-truth_at}
use Rattle.sci_ranges_marks.proofs.marking.programs_none.Goals as goal

pub loop-k-preserved : goal.loop-k-preserved
loop-k-preserved c =
    let e = c.index-row-k.result in
    let here : truth_at c.args.acts.now (get_or c.args.row.now c.loop-k.k e).block ≡ true → may_program (spec_of c.args.net.now (get_or c.args.row.now c.loop-k.k e).block) ≡ false =
    elim c.else-truth_at.branch [
      | else-truth_at-via-then-truth_at+else-may_program w ↦ λ on. sym (w.may_program.ensures ∙ ap may_program w.spec.ensures.value) ∙ w.if-may_program.false
      | else-truth_at-via-else-truth_at w ↦ λ on. absurd (true≢false (sym on ∙ (sym c.truth_at.ensures ∙ w.if-truth_at.false)))
    ] in
    none_more c.args.net.now c.args.acts.now c.args.row.now c.loop-k.k e c.loop-k-test.true here c.loop-k.invariant

pub returns : goal.returns
returns c _ k d h on = c.loop-k.invariant k d (omega (arith, h, c.loop-k-test.false)) on
