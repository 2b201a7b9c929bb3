use Rattle.std.proofs.Common.{ℕ, List, length, subst, subst₂, Option, IfOk}
use Rattle.std.proofs.lemmas.Result.{IfOk-weaker}
use Rattle.sci_infer.specs.Classes.{Joins}
use Rattle.sci_infer.specs.declared.values.Extremes.{Extremes}
use Rattle.sci_infer.specs.Values.{AreSpans, IsSplitAt, AreOne, IsFilled, IsVerdict}
use Rattle.sci_infer.proofs.Labels.{split_verdict, filled_verdict}
use Rattle.sci_infer.proofs.values.judge.Goals as goal

pub returns-in-Some : goal.returns-in-Some
returns-in-Some c =
    let ds = c.args.declared.now in
    let labels = c.in_ok-labels.labels.items in
    let spans = c.in_ok-spans.spans.items in
    let are = c.in_ok-labels.ensures in
    let all : AreSpans ds labels (length ds) spans =
    subst (λ n. AreSpans ds labels n spans) are.same_length (subst (λ (xs : List ℕ). AreSpans ds xs (length xs) spans) c.as_slice.ensures.value c.in_ok-spans.ensures.spans) in
    split_verdict ds labels (Joins c.args.ties.now) are spans all c.in-Some.at c.in-Some.span
    (subst₂ (λ (xs : List ℕ) (ys : List (Option Extremes)). IsSplitAt xs ys c.in-Some.at c.in-Some.span) c.as_slice-2.ensures.value c.as_slice-3.ensures.value c.in-Some.ensures.some)

pub returns : goal.returns
returns c =
    let ds = c.args.declared.now in
    let labels = c.in_ok-labels.labels.items in
    let spans = c.in_ok-spans.spans.items in
    let are = c.in_ok-labels.ensures in
    let all : AreSpans ds labels (length ds) spans =
    subst (λ n. AreSpans ds labels n spans) are.same_length (subst (λ (xs : List ℕ). AreSpans ds xs (length xs) spans) c.as_slice.ensures.value c.in_ok-spans.ensures.spans) in
    let one : AreOne labels spans (length labels) =
    subst₂ (λ (xs : List ℕ) (ys : List (Option Extremes)). AreOne xs ys (length xs)) c.as_slice-2.ensures.value c.as_slice-3.ensures.value c.in-None.ensures.none in
    let filled : IfOk c.fill.result (IsFilled labels spans) =
    subst₂ (λ (xs : List ℕ) (ys : List (Option Extremes)). IfOk c.fill.result (IsFilled xs ys)) c.as_slice-in-None.ensures.value c.as_slice-in-None-2.ensures.value c.fill.ensures in
    IfOk-weaker c.fill.result (IsFilled labels spans) (IsVerdict (Joins c.args.ties.now) ds) (λ v h. filled_verdict ds labels (Joins c.args.ties.now) are spans all v one h) filled
