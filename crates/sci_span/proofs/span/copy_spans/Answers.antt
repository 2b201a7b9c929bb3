use Rattle.std.proofs.Common.{◌≤◌, ◌<◌, ◌+◌, ◌++◌, ◌∙◌, ap, sym, arith, length, take, get_or, ℤ, List}
use Rattle.std.proofs.lemmas.List.Sums.{sum_by_more, sum_by_more_le}
use Rattle.sci_span.specs.declared.span.Span.{Span}
use Rattle.sci_span.specs.Values.{read_at, no_span}
use Rattle.sci_span.proofs.Copying.{gathered_more, copied_more}
use Rattle.sci_span.proofs.span.copy_spans.Goals as goal

pub loop-span-preserved : goal.loop-span-preserved
loop-span-preserved c =
    let k = c.loop-span.span-index in
    let spans = c.args.spans.now in
    let values = c.args.values.now in
    let inside : k < length spans = omega arith in
    let s = get_or spans k no_span in
    let len = λ (t : Span). t.len in
    let all = sum_by_more_le len spans k no_span inside in
    let to : c.loop-span.count + s.len ≤ length c.loop-span.ins = omega (arith, all, c.loop-span.invariant.count) in
    record {
      count = ap (λ n. n + s.len) c.loop-span.invariant.count ∙ sym (sum_by_more len spans k no_span inside);
      copied = ap (take (c.loop-span.count + s.len)) c.copy_span.ensures
          ∙ (copied_more values c.loop-span.ins s c.loop-span.count to (c.requires.from k no_span inside)
          ∙ (ap (λ (vs : List ℤ). vs ++ read_at values s) c.loop-span.invariant.copied ∙ sym (gathered_more values spans k no_span inside)));
    }
