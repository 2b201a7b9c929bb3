-- Where the outputs and the inputs of each block lie among the values of all outputs.
use Rattle.std.specs.Prelude.{◌≡◌, ◌⊎◌, ℕ, ◌+◌, ◌-◌, ◌≤◌, ℤ, List, [], map, length, slice_index_or}
use Rattle.sci_forms.specs.Ports.{total, elements, before}
use Rattle.sci_net.specs.declared.Wire.{Wire}
use Rattle.sci_net.specs.Parts.{Parts, IsBlock, numbered, spec_of, output_of}
use Rattle.sci_span.specs.declared.span.Span.{Span}
use Rattle.sci_span.specs.declared.place.Place.{Place}
use Rattle.sci_span.specs.Values.{no_place}
use Rattle.sci_places.specs.Flat.{start_of, start_in}

-- by block; and how many values the longest list of inputs has, at least 1
pub record Layout : Type 0 where
  pub blocks : List Place
  pub longest : ℕ

abbrev pub place_at : Layout → ℕ → Place
place_at l b = numbered no_place l.blocks b

-- ---- what a net lays down

abbrev pub block_span : Parts → ℕ → Span
block_span n b = record { start = start_of n b; len = total (spec_of n b).outs }

abbrev pub output_span : Parts → Wire → Span
output_span n w = record { start = start_of n w.block + before (spec_of n w.block).outs (w.port - 1); len = elements (output_of n w.block w.port) }

abbrev pub input_spans : Parts → ℕ → List Span
input_spans n b = map (output_span n) (numbered [] n.wires b)

abbrev pub laid_down : Parts → ℕ → Place
laid_down n b = record { outs = block_span n b; ins = input_spans n b }

-- where each block begins, and at the end how many values there are
pub record AreStarts (n : Parts) (starts : List ℕ) : Type 0 where
  pub long : length starts ≡ length n.specs + 1
  pub each : (k : ℕ) → k ≤ length n.specs → slice_index_or starts k 0 ≡ start_in n.specs k

-- this is where the values of the net lie
pub record IsLayout (n : Parts) (l : Layout) : Type 0 where
  pub one_each : length l.blocks ≡ length n.specs
  pub places : (b : ℕ) → IsBlock n b → place_at l b ≡ laid_down n b
  pub long_enough : (b : ℕ) → IsBlock n b → total (spec_of n b).ins ≤ l.longest
  pub some : 1 ≤ l.longest
  pub no_longer : (l.longest ≡ 1) ⊎ ((b : ℕ) × IsBlock n b × (total (spec_of n b).ins ≡ l.longest))
