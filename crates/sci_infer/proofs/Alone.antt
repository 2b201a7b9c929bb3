-- No two verdicts are right, and no two answers.
use Rattle.std.proofs.Common.{ℕ, ℤ, pos, ◌≡◌, ◌≤ℤ◌, ⊎_elim, List, subst, sym, ap, ◌∙◌, arith}
use Rattle.std.proofs.lemmas.Int.{ints}
use Rattle.std.proofs.lemmas.Bool.{cases_order}
use Rattle.std.proofs.lemmas.List.{same_lists, get_or_default}
use Rattle.sci_infer.specs.declared.values.Resolution.{Resolution}
use Rattle.sci_infer.specs.declared.values.Resolution.TheVariants.{Conflict, Open, Values}
use Rattle.sci_infer.specs.Values.{declared_at, IsSplit, IsAgreed}
use Rattle.sci_infer.specs.declared.values.Extremes.{Extremes}
use Rattle.sci_infer.specs.declared.parts.PortPart.{PortPart}
use Rattle.sci_infer.specs.Typing.{Decides, declared_of}
use Rattle.sci_net.specs.Parts.{Parts}
use Rattle.sci_infer.specs.PortParts.{parts_in, AreTied}
use Rattle.sci_infer.specs.Answer.{answered, judged_typing}
use Rattle.sci_infer.specs.Laws.{IsSameVerdict, OneAnswer}

antisym : (x y : ℤ) → x ≤ℤ y → y ≤ℤ x → x ≡ y
antisym x y a b = omega (arith, ints)

split_not_agreed : (joins : ℕ → ℕ → Type 0) (ds : List ℤ) (i : ℕ) (s : Extremes) → IsSplit joins ds i s → IsAgreed joins ds i → ⊥
split_not_agreed joins ds i s h a = h.differ (a s.least s.greatest h.least h.greatest)

same_span : (joins : ℕ → ℕ → Type 0) (ds : List ℤ) (i : ℕ) (s r : Extremes) → IsSplit joins ds i s → IsSplit joins ds i r → (s.least ≡ r.least) × (s.greatest ≡ r.greatest)
same_span joins ds i s r a b = (antisym s.least r.least (a.above r.least b.least) (b.above s.least a.least), antisym s.greatest r.greatest (b.below s.greatest a.greatest) (a.below r.greatest b.greatest))

module _ (parts : List PortPart) (joins : ℕ → ℕ → Type 0) where
  pub one : (v w : Resolution) → Decides parts joins v → Decides parts joins w → IsSameVerdict v w
  one (Conflict i s) (Conflict j r) h k =
      let same : i ≡ j = ⊎_elim (λ e. e) (λ apart. absurd (⊎_elim
      (λ low. split_not_agreed joins (declared_of parts) i s h.2 (k.3 i low))
      (λ high. split_not_agreed joins (declared_of parts) j r k.2 (h.3 j high)) apart)) (cases_order i j) in
      let both = same_span joins (declared_of parts) j s r (subst (λ m. IsSplit joins (declared_of parts) m s) same h.2) k.2 in
      (same, both.0, both.1)
  one (Conflict i s) (Open j) h k = h.0 k.1.one k.1.one_fits
  one (Conflict i s) (Values ws) h k = h.0 (declared_at ws.items) k.1.fits
  one (Open i) (Conflict j r) h k = k.0 h.1.one h.1.one_fits
  one (Open i) (Open j) h k =
      ⊎_elim (λ e. e) (λ apart. absurd (⊎_elim
      (λ low. h.1.differ (k.2 i low h.1.one h.1.other h.1.one_fits h.1.other_fits))
      (λ high. k.1.differ (h.2 j high k.1.one k.1.other k.1.one_fits k.1.other_fits)) apart)) (cases_order i j)
  one (Open i) (Values ws) h k = h.1.differ (k.1.only h.1.one h.1.one_fits i h.0 ∙ sym (k.1.only h.1.other h.1.other_fits i h.0))
  one (Values vs) (Conflict j r) h k = k.0 (declared_at vs.items) h.1.fits
  one (Values vs) (Open j) h k = k.1.differ (h.1.only k.1.one k.1.one_fits j k.0 ∙ sym (h.1.only k.1.other k.1.other_fits j k.0))
  one (Values vs) (Values ws) h k =
      same_lists vs.items ws.items (h.0 ∙ sym k.0)
      (λ i d l. get_or_default vs.items i d (pos 0) l ∙ (k.1.only (declared_at vs.items) h.1.fits i (let n = h.0 in omega (arith, l, n))
      ∙ get_or_default ws.items i (pos 0) d (let n = h.0 in let m = k.0 in omega (arith, l, n, m))))

same_answer : (n : Parts) (v w : Resolution) → IsSameVerdict v w → answered n v ≡ answered n w
same_answer n (Conflict i s) (Conflict j r) h =
    let make : ℤ → ℤ → Extremes = λ a b. record { least = a; greatest = b } in
    ap (λ (k : ℕ). answered n (Conflict k s)) h.0
    ∙ (ap (λ (a : ℤ). answered n (Conflict j (make a s.greatest))) h.1 ∙ ap (λ (b : ℤ). answered n (Conflict j (make r.least b))) h.2)
same_answer n (Conflict i s) (Open j) h = absurd h
same_answer n (Conflict i s) (Values ws) h = absurd h
same_answer n (Open i) (Conflict j r) h = absurd h
same_answer n (Open i) (Open j) h = ap (λ (k : ℕ). answered n (Open k)) h
same_answer n (Open i) (Values ws) h = absurd h
same_answer n (Values vs) (Conflict j r) h = absurd h
same_answer n (Values vs) (Open j) h = absurd h
same_answer n (Values vs) (Values ws) h = ap (judged_typing n) h

pub one_answer : OneAnswer
one_answer n o q a b =
    sym a.given ∙ (same_answer n a.verdict b.verdict (one (parts_in n) (AreTied n) a.verdict b.verdict a.decided b.decided) ∙ b.given)
