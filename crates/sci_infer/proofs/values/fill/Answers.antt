use Rattle.std.proofs.lemmas.Int.{to_z-of_z}
use Rattle.std.proofs.Common.{FitsSigned as SFits, w64, ◌+◌, ◌++◌, ◌∷◌, [], rules, ◌≡◌, None, Some, ap, ◌∙◌, arith, below_more, length, pos}
use Rattle.std.proofs.lemmas.List.{get_or_push, get_or_append_left, length_push}
use Rattle.sci_infer.specs.Values.{span_at, declared_at}
use Rattle.sci_infer.proofs.values.fill.Goals as goal

pub returns-in-None : goal.returns-in-None
returns-in-None c =
    let e : span_at c.args.labels.now c.args.spans.now c.loop-i.i ≡ None = search rules in
    (c.loop-i-test.true, e, λ i h. let l = c.loop-i.invariant.least i h in (l.0, l.1))

pub loop-i-preserved : goal.loop-i-preserved
loop-i-preserved c =
    let e : span_at c.args.labels.now c.args.spans.now c.loop-i.i ≡ Some c.in-Some.span = search rules in
    let fits : SFits w64 c.in-Some.span.least = search rules in
    let long = c.loop-i.invariant.same_length in
    let whole : c.push.new.self.items ≡ c.loop-i.values.items ++ c.in-Some.span.least ∷ [] =
    c.in_ok-push-in-Some.ensures.items ∙ ap (λ v. c.loop-i.values.items ++ v ∷ []) (to_z-of_z w64 c.in-Some.span.least fits) in
    record {
      same_length = ap length whole ∙ (length_push c.loop-i.values.items c.in-Some.span.least ∙ ap (λ n. n + 1) long);
      least = below_more _ _
          (λ k h. let l = c.loop-i.invariant.least k h in
          (l.0, l.1, ap (λ vs. declared_at vs k) whole ∙ (get_or_append_left c.loop-i.values.items (c.in-Some.span.least ∷ []) (pos 0) k (omega (arith, h, long)) ∙ l.2)))
          (c.in-Some.span, e, ap (λ vs. declared_at vs c.loop-i.i) whole ∙ get_or_push c.loop-i.values.items c.in-Some.span.least (pos 0) c.loop-i.i long);
    }
