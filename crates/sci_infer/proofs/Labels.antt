-- The least and the greatest declared number of a label, and what they say of a class.
use Rattle.std.proofs.Common.{ℕ, ℤ, pos, int_lt, ◌≡◌, ◌+◌, ◌<◌, ◌≤◌, ◌<ℤ◌, ◌≤ℤ◌, ◌⊎◌, inl, inr, ⊎_elim, List, length, get_or, set, Option, Some, None, subst, sym, refl, ap, ◌∙◌, arith, get_or-set_same, get_or-set_other}
use Rattle.std.specs.Int.{int_min, int_max}
use Rattle.std.proofs.lemmas.Int.{ints, clamps}
use Rattle.std.proofs.lemmas.Bool.{cases_eq, cond_both}
use Rattle.sci_infer.specs.Classes.{Tied, AreClasses}
use Rattle.sci_infer.proofs.Trees.{Tied-trans, Tied-sym, Tied-equal}
use Rattle.sci_infer.specs.declared.values.Extremes.{Extremes}
use Rattle.sci_infer.specs.Values.{declared_at, Has, IsAgreed, AreAgreed, IsLabelled, IsSpan, IsSpanOf, AreSpans, widened, IsOne, AreOne, IsSplitAt, IsFilled, span_at, IsVerdict, IsKnown}
use Rattle.sci_infer.specs.declared.values.Resolution.{Resolution}
use Rattle.sci_infer.specs.declared.values.Resolution.TheVariants.{Conflict, Open, Values}

min_is_lower : (x y : ℤ) → (int_min x y ≤ℤ x) × (int_min x y ≤ℤ y)
min_is_lower x y = (omega (arith, ints, clamps), omega (arith, ints, clamps))

max_is_upper : (x y : ℤ) → (x ≤ℤ int_max x y) × (y ≤ℤ int_max x y)
max_is_upper x y = (omega (arith, ints, clamps), omega (arith, ints, clamps))

le_trans : (x y z : ℤ) → x ≤ℤ y → y ≤ℤ z → x ≤ℤ z
le_trans x y z p q = omega (arith, ints)

le_same : (x y : ℤ) → x ≡ y → x ≤ℤ y
le_same x y e = omega (arith, ints)

pub either : (P : ℤ → Type 0) (x y : ℤ) → P x → P y → P (int_min x y) × P (int_max x y)
either P x y p q = (cond_both (int_lt y x) y x P (λ h. q) (λ h. p), cond_both (int_lt y x) x y P (λ h. p) (λ h. q))

between : (x y v w : ℤ) → x ≤ℤ v → v ≤ℤ y → x ≤ℤ w → w ≤ℤ y → x ≡ y → v ≡ w
between x y v w a b c d e = omega (arith, ints)

abbrev pub least_of : Option Extremes → Option ℤ
least_of None = None
least_of (Some s) = Some s.least

module _ (ds : List ℤ) (labels : List ℕ) where
  labelled_more : (k r : ℕ) (v : ℤ) → IsLabelled ds labels k r v → IsLabelled ds labels (k + 1) r v
  labelled_more k r v l = record { at = l.at; within = let h = l.within in omega (arith, h); is = l.is; declares = l.declares; positive = l.positive }

  labelled_cases : (k r : ℕ) (v : ℤ) → IsLabelled ds labels (k + 1) r v → IsLabelled ds labels k r v ⊎ ((get_or labels k 0 ≡ r) × (declared_at ds k ≡ v) × (pos 0 <ℤ v))
  labelled_cases k r v l =
      let h = l.within in
      ⊎_elim (λ e. inr (ap (λ m. get_or labels m 0) (sym e) ∙ l.is, ap (λ m. get_or ds m (pos 0)) (sym e) ∙ l.declares, l.positive))
      (λ other. inl (record { at = l.at; within = omega (arith, h, other); is = l.is; declares = l.declares; positive = l.positive }))
      (cases_eq l.at k)

  span_kept : (k r : ℕ) (o : Option Extremes) → IsSpanOf ds labels k r o → ((v : ℤ) → IsLabelled ds labels (k + 1) r v → IsLabelled ds labels k r v) → IsSpanOf ds labels (k + 1) r o
  span_kept k r None none less = λ v l. none v (less v l)
  span_kept k r (Some s) span less =
      record {
        least = labelled_more k r s.least span.least;
        greatest = labelled_more k r s.greatest span.greatest;
        above = λ v l. span.above v (less v l);
        below = λ v l. span.below v (less v l);
      }

  span_widened : (k r : ℕ) (o : Option Extremes) → IsSpanOf ds labels k r o → get_or labels k 0 ≡ r → pos 0 <ℤ declared_at ds k → IsSpan ds labels (k + 1) r (widened o (declared_at ds k))
  span_widened k r None none is positive =
      let here : IsLabelled ds labels (k + 1) r (declared_at ds k) = record { at = k; within = omega arith; is = is; declares = refl; positive = positive } in
      record {
        least = here;
        greatest = here;
        above = λ v l. ⊎_elim (λ old. absurd (none v old)) (λ new. le_same (declared_at ds k) v new.1) (labelled_cases k r v l);
        below = λ v l. ⊎_elim (λ old. absurd (none v old)) (λ new. le_same v (declared_at ds k) (sym new.1)) (labelled_cases k r v l);
      }
  span_widened k r (Some s) span is positive =
      let d = declared_at ds k in
      let P : ℤ → Type 0 = IsLabelled ds labels (k + 1) r in
      let here : P d = record { at = k; within = omega arith; is = is; declares = refl; positive = positive } in
      let low = min_is_lower s.least d in
      let high = max_is_upper s.greatest d in
      record {
        least = (either P s.least d (labelled_more k r s.least span.least) here).0;
        greatest = (either P s.greatest d (labelled_more k r s.greatest span.greatest) here).1;
        above = λ v l. ⊎_elim (λ old. le_trans (int_min s.least d) s.least v low.0 (span.above v old))
            (λ new. le_trans (int_min s.least d) d v low.1 (le_same d v new.1)) (labelled_cases k r v l);
        below = λ v l. ⊎_elim (λ old. le_trans v s.greatest (int_max s.greatest d) (span.below v old) high.0)
            (λ new. le_trans v d (int_max s.greatest d) (le_same v d (sym new.1)) high.1) (labelled_cases k r v l);
      }

  pub spans_set : (k : ℕ) (spans : List (Option Extremes)) → length spans ≡ length labels → get_or labels k 0 < length labels → AreSpans ds labels k spans → pos 0 <ℤ declared_at ds k →
      AreSpans ds labels (k + 1) (set spans (get_or labels k 0) (Some (widened (get_or spans (get_or labels k 0) None) (declared_at ds k))))
  spans_set k spans long inside are positive r h =
      let at = get_or labels k 0 in
      let new : Option Extremes = Some (widened (get_or spans at None) (declared_at ds k)) in
      ⊎_elim
      (λ e. subst (λ q. IsSpanOf ds labels (k + 1) q (get_or (set spans at new) q None)) (sym e)
      (subst (IsSpanOf ds labels (k + 1) at) (sym (get_or-set_same spans at new None (omega (arith, inside, long))))
      (span_widened k at (get_or spans at None) (are at inside) refl positive)))
      (λ other. subst (IsSpanOf ds labels (k + 1) r) (sym (get_or-set_other spans at r new None other))
      (span_kept k r (get_or spans r None) (are r h) (λ v l. ⊎_elim (λ old. old) (λ here. absurd (other (sym here.0))) (labelled_cases k r v l))))
      (cases_eq r at)

  pub spans_kept : (k : ℕ) (spans : List (Option Extremes)) → AreSpans ds labels k spans → (pos 0 <ℤ declared_at ds k → ⊥) → AreSpans ds labels (k + 1) spans
  spans_kept k spans are unknown r h =
      span_kept k r (get_or spans r None) (are r h) (λ v l. ⊎_elim (λ old. old)
      (λ here. absurd (unknown (subst (λ x. pos 0 <ℤ x) (sym here.1) here.2))) (labelled_cases k r v l))

  -- a class's declared numbers are those of its label
  pub labelled_from : (joins : ℕ → ℕ → Type 0) → AreClasses joins (length ds) labels → (i : ℕ) (v : ℤ) → Has joins ds i v → IsLabelled ds labels (length ds) (get_or labels i 0) v
  labelled_from joins are i v h =
      record { at = h.at; within = h.within; is = sym (Tied-equal joins (λ k. get_or labels k 0) are.complete h.tied); declares = h.declares; positive = h.positive }

  pub has_from : (joins : ℕ → ℕ → Type 0) → AreClasses joins (length ds) labels → (i : ℕ) (v : ℤ) → i < length ds → IsLabelled ds labels (length ds) (get_or labels i 0) v → Has joins ds i v
  has_from joins are i v inside l =
      record {
        at = l.at;
        within = l.within;
        tied = Tied-trans joins (are.sound i inside) (subst (λ k. Tied joins k l.at) l.is (Tied-sym joins (are.sound l.at l.within)));
        declares = l.declares;
        positive = l.positive;
      }

  span_here : (spans : List (Option Extremes)) → AreSpans ds labels (length ds) spans → (i : ℕ) → get_or labels i 0 < length labels → (o : Option Extremes) → span_at labels spans i ≡ o →
      IsSpanOf ds labels (length ds) (get_or labels i 0) o
  span_here spans are i inside o e = subst (IsSpanOf ds labels (length ds) (get_or labels i 0)) e (are (get_or labels i 0) inside)

  one_agreed : (joins : ℕ → ℕ → Type 0) → AreClasses joins (length ds) labels → (i : ℕ) → (o : Option Extremes) → IsSpanOf ds labels (length ds) (get_or labels i 0) o → IsOne o → IsAgreed joins ds i
  one_agreed joins are i None none one v w hv hw = absurd (none v (labelled_from joins are i v hv))
  one_agreed joins are i (Some s) span one v w hv hw =
      let lv = labelled_from joins are i v hv in
      let lw = labelled_from joins are i w hw in
      between s.least s.greatest v w (span.above v lv) (span.below v lv) (span.above w lw) (span.below w lw) one

  module _ (joins : ℕ → ℕ → Type 0) (are : AreClasses joins (length ds) labels) (spans : List (Option Extremes)) (all : AreSpans ds labels (length ds) spans) where
    label_inside : (i : ℕ) → i < length ds → get_or labels i 0 < length labels
    label_inside i h = let w = are.within i h in let n = are.same_length in omega (arith, w, n)

    agreed_below : (k : ℕ) → k ≤ length ds → AreOne labels spans k → AreAgreed joins ds k
    agreed_below k few one i h =
        one_agreed joins are i (span_at labels spans i) (span_here spans all i (label_inside i (omega (arith, h, few))) (span_at labels spans i) refl) (one i h)

    pub split_verdict : (at : ℕ) (s : Extremes) → IsSplitAt labels spans at s → IsVerdict joins ds (Conflict at s)
    split_verdict at s h =
        let inside : at < length ds = let n = are.same_length in let w = h.within in omega (arith, w, n) in
        let span : IsSpan ds labels (length ds) (get_or labels at 0) s = span_here spans all at (label_inside at inside) (Some s) h.is in (
          inside,
          record {
            least = has_from joins are at s.least inside span.least;
            greatest = has_from joins are at s.greatest inside span.greatest;
            above = λ v l. span.above v (labelled_from joins are at v l);
            below = λ v l. span.below v (labelled_from joins are at v l);
            differ = h.differ;
          },
          agreed_below at (omega (arith, inside)) h.before,
        )

    has_least : (i : ℕ) → i < length ds → (s : Extremes) → span_at labels spans i ≡ Some s → Has joins ds i s.least
    has_least i inside s e =
        let span : IsSpan ds labels (length ds) (get_or labels i 0) s = span_here spans all i (label_inside i inside) (Some s) e in
        has_from joins are i s.least inside span.least

    known_here : (i : ℕ) → i < length ds → (o : Option Extremes) → span_at labels spans i ≡ o → IsKnown joins ds i (least_of o)
    known_here i inside None e = λ v l. span_here spans all i (label_inside i inside) None e v (labelled_from joins are i v l)
    known_here i inside (Some s) e = has_least i inside s e

    pub filled_verdict : (v : Resolution) → AreOne labels spans (length labels) → IsFilled labels spans v → IsVerdict joins ds v
    filled_verdict (Conflict at s) one h = absurd h
    filled_verdict (Open at) one h =
        let inside : at < length ds = let n = are.same_length in let w = h.0 in omega (arith, w, n) in (
          inside,
          (λ v l. span_here spans all at (label_inside at inside) None h.1 v (labelled_from joins are at v l)),
          agreed_below (length ds) (omega arith) (subst (AreOne labels spans) are.same_length one),
          (λ i l. let s = h.2 i l in (s.0.least, has_least i (omega (arith, l, inside)) s.0 s.1)),
          ((λ i. least_of (span_at labels spans i)), λ i l. known_here i l (span_at labels spans i) refl),
        )
    filled_verdict (Values vs) one h = (
      h.0 ∙ are.same_length,
      agreed_below (length ds) (omega arith) (subst (AreOne labels spans) are.same_length one),
      λ i l. let s = h.1 i (let n = are.same_length in omega (arith, l, n)) in subst (Has joins ds i) (sym s.2) (has_least i l s.0 s.1),
    )
