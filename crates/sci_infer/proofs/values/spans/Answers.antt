use Rattle.std.proofs.Common.{◌≡◌, ◌<◌, Vec, length, get_or, set, Option, Some, None, true≢false, subst, sym, ap, ◌∙◌, arith, length-set, Global, ◌+◌}
use Rattle.std.proofs.lemmas.List.{get_or_read}
use Rattle.sci_infer.specs.declared.values.Extremes.{Extremes}
use Rattle.sci_infer.specs.Values.{AreSpans, widened, declared_at}
use Rattle.sci_infer.proofs.Labels.{spans_set, spans_kept}
use Rattle.sci_infer.proofs.values.spans.Goals as goal
use Rattle.sci_infer.proofs.values.spans.Goals.{then-is_declared, else-is_declared}

pub loop-i-preserved : goal.loop-i-preserved
loop-i-preserved c =
    let ds = c.args.declared.now in
    let ls = c.args.labels.now in
    let ss = c.loop-i.spans.items in
    let label = get_or ls c.loop-i.i 0 in
    let inv = c.loop-i.invariant in
    let inside : label < length ls = c.requires.labels c.loop-i.i c.loop-i-test.true in
    elim c.if-is_declared.branch [
      | then-is_declared w ↦
          let items : c.if-is_declared.spans.items ≡ set ss label (Some w.widen.result) = ap (λ (v : Vec (Option Extremes) Global). v.items) w.spans-is in
          let old : w.index.result.now ≡ get_or ss label None = get_or_read ss label w.index.result.now (omega (arith, inside, inv.same_length)) w.index.ensures None in
          let whole : c.if-is_declared.spans.items ≡ set ss label (Some (widened (get_or ss label None) (declared_at ds c.loop-i.i))) =
          items ∙ ap (λ s. set ss label (Some s)) (w.widen.ensures ∙ ap (λ o. widened o (declared_at ds c.loop-i.i)) old) in
          record {
            same_length = ap length items ∙ (length-set ss label (Some w.widen.result) ∙ inv.same_length);
            spans = subst (AreSpans ds ls (c.loop-i.i + 1)) (sym whole) (spans_set ds ls c.loop-i.i ss inv.same_length inside inv.spans (c.is_declared.ensures.0 w.if-is_declared.true));
          }
      | else-is_declared w ↦
          let items : c.if-is_declared.spans.items ≡ ss = ap (λ (v : Vec (Option Extremes) Global). v.items) w.spans-is in
          record {
            same_length = ap length items ∙ inv.same_length;
            spans = subst (AreSpans ds ls (c.loop-i.i + 1)) (sym items) (spans_kept ds ls c.loop-i.i ss inv.spans
                (λ h. true≢false (sym (c.is_declared.ensures.1 h) ∙ w.if-is_declared.false)));
          }
    ]

pub returns-clause-spans : goal.returns-clause-spans
returns-clause-spans c =
    let full : c.loop-i.i ≡ length c.args.labels.now = omega (arith, c.loop-i-test.false, c.loop-i.auto.i-end) in
    subst (λ k. AreSpans c.args.declared.now c.args.labels.now k c.loop-i.spans.items) full c.loop-i.invariant.spans
