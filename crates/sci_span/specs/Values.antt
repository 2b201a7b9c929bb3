-- Where values lie in a list of all, and what is read there.
use Rattle.std.specs.Prelude.{◌≡◌, ℕ, ◌+◌, ◌≤◌, ℤ, List, [], ◌∷◌, ◌++◌, take, drop, length, sum_by, All}
use Rattle.sci_span.specs.declared.span.Span.{Span}
use Rattle.sci_span.specs.declared.place.Place.{Place}

abbrev pub no_span : Span
no_span = record { start = 0; len = 0 }

-- a block without outputs and inputs
abbrev pub no_place : Place
no_place = record { outs = no_span; ins = [] }

-- ---- values at places

abbrev pub span_end : Span → ℕ
span_end s = s.start + s.len

abbrev pub spans_length : List Span → ℕ
spans_length spans = sum_by (λ (s : Span). s.len) spans

abbrev pub read_at : List ℤ → Span → List ℤ
read_at values s = take s.len (drop s.start values)

-- the values at these places, one behind the other
abbrev pub gathered : List ℤ → List Span → List ℤ
gathered values [] = []
gathered values (s ∷ ss) = read_at values s ++ gathered values ss

-- all of them are there
abbrev pub AreWithin : List ℤ → List Span → Type 0
AreWithin values spans = All (λ s. span_end s ≤ length values) spans

-- these instead, from a place on
abbrev pub overwritten : List ℤ → ℕ → List ℤ → List ℤ
overwritten values start vs = take start values ++ (vs ++ drop (start + length vs) values)

-- each input has one element, and there is at most one element of the outputs
pub record IsLone (p : Place) : Type 0 where
  pub ins : All (λ s. s.len ≡ 1) p.ins
  pub outs : p.outs.len ≤ 1
