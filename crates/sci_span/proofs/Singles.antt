-- Inputs of one element each.
use Rattle.std.proofs.Common.{◌≡◌, ℕ, suc, ◌<◌, ◌≤◌, List, [], ◌∷◌, ◌++◌, length, map, take, get_or, ℤ, pos, ap, subst, ◌∙◌, arith, refl}
use Rattle.std.proofs.Math.Seq.{drop-cons}
use Rattle.std.proofs.lemmas.List.{get_or-map, length-map}
use Rattle.std.proofs.lemmas.List.Sums.{sum_by-cons}
use Rattle.sci_span.specs.declared.span.Span.{Span}
use Rattle.sci_span.specs.Values.{gathered, read_at, spans_length, span_end, AreWithin}
use Rattle.sci_base.specs.Lists.{at}
use Rattle.sci_span.specs.Singles.{single}

singles_length : (ks : List ℕ) → spans_length (map single ks) ≡ length ks
singles_length [] = refl
singles_length (k ∷ ks) =
    let more = sum_by-cons (λ (s : Span). s.len) (single k) (map single ks) in let rest = singles_length ks in omega (arith, more, rest)

read_single : (values : List ℤ) (k : ℕ) → k < length values → read_at values (single k) ≡ at values k ∷ []
read_single values k h = ap (take 1) (drop-cons values k (pos 0) h)

singles_gathered : (values : List ℤ) (ks : List ℕ) → ((k d : ℕ) → k < length ks → get_or ks k d < length values) → gathered values (map single ks) ≡ map (at values) ks
singles_gathered values [] h = refl
singles_gathered values (k ∷ ks) h =
    ap (λ (vs : List ℤ). vs ++ gathered values (map single ks)) (read_single values k (h 0 0 (omega arith)))
    ∙ ap (λ (vs : List ℤ). at values k ∷ vs) (singles_gathered values ks (λ i d l. h (suc i) d (omega (arith, l))))

singles_within : (values : List ℤ) (ks : List ℕ) → AreWithin values (map single ks) → (k d : ℕ) → k < length ks → get_or ks k d < length values
singles_within values ks h k d l =
    let long = length-map ks single in
    let here : span_end (get_or (map single ks) k (single d)) ≤ length values = h k (single d) (omega (arith, l, long)) in
    let is = ap span_end (get_or-map single ks k d (single d) l) in
    omega (arith, here, is)

-- spans that have one element each, by their places
module _ (values : List ℤ) (spans : List Span) (ks : List ℕ) (is : spans ≡ map single ks) where
  pub places_within : AreWithin values spans → (k d : ℕ) → k < length ks → get_or ks k d < length values
  places_within h = singles_within values ks (subst (AreWithin values) is h)

  pub as_many : spans_length spans ≡ length ks
  as_many = ap spans_length is ∙ singles_length ks

  pub values_gathered : AreWithin values spans → gathered values spans ≡ map (at values) ks
  values_gathered h = ap (gathered values) is ∙ singles_gathered values ks (places_within h)
