-- Inputs of one element each.
use Rattle.std.specs.Prelude.{◌≡◌, ℕ, List, map, Any, Option, Some, None, Vec}
use Rattle.std.specs.declared.alloc.Global.{Global}
use Rattle.sci_span.specs.declared.span.Span.{Span}

-- the span of one value
abbrev pub single : ℕ → Span
single k = record { start = k; len = 1 }

-- the spans have one element each, and these are their places; or no places are told, and some span has another number of elements
abbrev pub ArePlacesOf : List Span → Option (Vec ℕ Global) → Type 0
ArePlacesOf spans (Some places) = spans ≡ map single places.items
ArePlacesOf spans None = Any (λ s. s.len ≡ 1 → ⊥) spans
