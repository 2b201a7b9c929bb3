-- Inputs that have one element each, and inputs of which one has not.
use Rattle.std.proofs.Common.{◌≡◌, ℕ, ◌<◌, List, length, map, sym, subst, refl}
use Rattle.std.specs.Prelude.{All, Any}
use Rattle.std.proofs.lemmas.List.Elements.{All-map}
use Rattle.sci_span.specs.declared.span.Span.{Span}
use Rattle.sci_span.specs.Singles.{single}

pub lens_one : (spans : List Span) (ks : List ℕ) → spans ≡ map single ks → All (λ s. s.len ≡ 1) spans
lens_one spans ks is = subst (All (λ (s : Span). s.len ≡ 1)) (sym is) (All-map (λ (s : Span). s.len ≡ 1) single ks (λ k d l. refl))

pub none_longer : (spans : List Span) → All (λ s. s.len ≡ 1) spans → Any (λ s. s.len ≡ 1 → ⊥) spans → ⊥
none_longer spans all w = w.4 (subst (λ (s : Span). s.len ≡ 1) w.3 (all w.0 w.1 w.2))
