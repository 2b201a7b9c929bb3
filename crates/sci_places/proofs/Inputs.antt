-- The values at the places of a block's inputs.
use Rattle.std.proofs.Common.{◌≡◌, ℕ, zero, suc, ◌+◌, ◌-◌, ◌<◌, ◌≤◌, List, [], ◌∷◌, ◌++◌, length, map, ℤ, pos, refl, ap, sym, ◌∙◌, arith}
use Rattle.std.specs.Prelude.{slice_index_or}
use Rattle.sci_base.specs.Lists.{at, listed}
use Rattle.sci_forms.specs.declared.ports.Port.{Port}
use Rattle.sci_forms.specs.Ports.{port_at, elements, total, before}
use Rattle.sci_kinds.specs.Asks.{laid}
use Rattle.sci_kinds.proofs.Elements.{listed_at}
use Rattle.sci_net.specs.declared.Wire.{Wire}
use Rattle.sci_net.specs.Parts.{Parts, IsBlock, IsInput, IsOutput, numbered, no_wire, spec_of, wire_of}
use Rattle.sci_net.specs.Net.{IsNet, all_elements}
use Rattle.sci_reaction.specs.Equations.{input_in, output_among}
use Rattle.sci_places.specs.Flat.{start_of, values_at, IsWhole}
use Rattle.sci_places.specs.Layout.{output_span}
use Rattle.sci_span.specs.Values.{gathered, AreWithin, spans_length, read_at, span_end}
use Rattle.sci_places.specs.Laws.{InputsAreGathered}
use Rattle.sci_places.proofs.Lists.{up_to, read_within}
use Rattle.sci_span.proofs.Runs.{read_length}
use Rattle.sci_places.proofs.Outputs.{block_within}
use Rattle.std.proofs.lemmas.List.{ext_get_or, get_or-map, length-map}
use Rattle.std.proofs.lemmas.List.Sums.{sum_by-cons}
use Rattle.sci_span.specs.declared.span.Span.{Span}

-- a list by its elements
pub listed_all : (vs : List ℤ) (n : ℕ) → length vs ≡ n → listed (at vs) n ≡ vs
listed_all vs n e =
    let g = listed_at (at vs) n in
    ext_get_or (pos 0) (listed (at vs) n) vs (g.0 ∙ sym e) (λ k l. g.1 k (omega (arith, l, g.0)))

-- an output lies among the values
pub output_within : (n : Parts) (w : Wire) → IsOutput n w.block w.port → span_end (output_span n w) ≤ all_elements n.specs
output_within n w h = by_port w.port h refl
  where
    by_port : (p : ℕ) → IsOutput n w.block p → w.port ≡ p → span_end (output_span n w) ≤ all_elements n.specs
    by_port zero o e = absurd (omega (arith, o.least))
    by_port (suc k) o e =
        let f : suc k - 1 ≡ k = omega arith in
        let port = up_to (spec_of n w.block).outs k (omega (arith, o.most)) in
        let block = block_within n w.block o.block in
        rw (e, f) (omega (arith, port, block))

-- the values at the place of an output are those of the output
pub output_read : (n : Parts) (values : List ℤ) (w : Wire) → IsOutput n w.block w.port
    → output_among (spec_of n w.block).outs (values_at n values w.block) w.port ≡ read_at values (output_span n w)
output_read n values w h = by_port w.port h refl
  where
    by_port : (p : ℕ) → IsOutput n w.block p → w.port ≡ p → output_among (spec_of n w.block).outs (values_at n values w.block) w.port ≡ read_at values (output_span n w)
    by_port zero o e = absurd (omega (arith, o.least))
    by_port (suc k) o e =
        let f : suc k - 1 ≡ k = omega arith in
        let port = up_to (spec_of n w.block).outs k (omega (arith, o.most)) in
        rw (e, f) (read_within values (start_of n w.block) (total (spec_of n w.block).outs) (before (spec_of n w.block).outs k) (elements (port_at (spec_of n w.block).outs k)) port)

-- outputs that join ports, in order
pub record Joins (n : Parts) (values : List ℤ) (ps : List Port) (ws : List Wire) (xs : ℕ → List ℤ) : Type 0 where
  pub long : length ws ≡ length ps
  pub spans : (k : ℕ) → k < length ps → read_at values (output_span n (slice_index_or ws k no_wire)) ≡ xs (suc k)
  pub fits : (k : ℕ) → k < length ps → span_end (output_span n (slice_index_or ws k no_wire)) ≤ length values
  pub sizes : (k : ℕ) → k < length ps → (output_span n (slice_index_or ws k no_wire)).len ≡ elements (port_at ps k)

joins_rest : (n : Parts) (values : List ℤ) (p : Port) (ps : List Port) (w : Wire) (ws : List Wire) (xs : ℕ → List ℤ)
    → Joins n values (p ∷ ps) (w ∷ ws) xs → Joins n values ps ws (λ k. xs (suc k))
joins_rest n values p ps w ws xs j = record {
  long = omega (arith, j.long);
  spans = λ k h. j.spans (suc k) (omega (arith, h));
  fits = λ k h. j.fits (suc k) (omega (arith, h));
  sizes = λ k h. j.sizes (suc k) (omega (arith, h));
}

pub joined_values : (n : Parts) (values : List ℤ) (ps : List Port) (ws : List Wire) (xs : ℕ → List ℤ) → Joins n values ps ws xs
    → gathered values (map (output_span n) ws) ≡ laid ps xs
joined_values n values [] [] xs j = refl
joined_values n values [] (w ∷ ws) xs j = absurd (omega (arith, j.long))
joined_values n values (p ∷ ps) [] xs j = absurd (omega (arith, j.long))
joined_values n values (p ∷ ps) (w ∷ ws) xs j =
    let first = j.spans 0 (omega arith) in
    let size : (output_span n w).len ≡ elements p = j.sizes 0 (omega arith) in
    let long : length (xs 1) ≡ elements p = ap length (sym first)
    ∙ (read_length values (output_span n w).start (output_span n w).len (j.fits 0 (omega arith)) ∙ size) in
    ap (λ vs. vs ++ gathered values (map (output_span n) ws)) (first ∙ sym (listed_all (xs 1) (elements p) long))
    ∙ ap (λ vs. listed (at (xs 1)) (elements p) ++ vs) (joined_values n values ps ws (λ k. xs (suc k)) (joins_rest n values p ps w ws xs j))

pub joined_within : (n : Parts) (values : List ℤ) (ps : List Port) (ws : List Wire) (xs : ℕ → List ℤ) → Joins n values ps ws xs
    → AreWithin values (map (output_span n) ws)
joined_within n values ps ws xs j = λ k d l.
    let long = length-map ws (output_span n) in
    let within : k < length ws = omega (arith, l, long) in
    rw (get_or-map (output_span n) ws k no_wire d within) (j.fits k (omega (arith, within, j.long)))

pub joined_length : (n : Parts) (values : List ℤ) (ps : List Port) (ws : List Wire) (xs : ℕ → List ℤ) → Joins n values ps ws xs
    → spans_length (map (output_span n) ws) ≡ total ps
joined_length n values [] [] xs j = refl
joined_length n values [] (w ∷ ws) xs j = absurd (omega (arith, j.long))
joined_length n values (p ∷ ps) [] xs j = absurd (omega (arith, j.long))
joined_length n values (p ∷ ps) (w ∷ ws) xs j =
    let size : (output_span n w).len ≡ elements p = j.sizes 0 (omega arith) in
    let rest = joined_length n values ps ws (λ k. xs (suc k)) (joins_rest n values p ps w ws xs j) in
    sum_by-cons (λ (s : Span). s.len) (output_span n w) (map (output_span n) ws)
    ∙ (ap (λ k. k + spans_length (map (output_span n) ws)) size ∙ ap (λ k. elements p + k) rest)

-- the wires of a block join its inputs
wire_joins : (n : Parts) (values : List ℤ) (b : ℕ) → IsNet n → IsWhole n values → IsBlock n b
    → Joins n values (spec_of n b).ins (numbered [] n.wires b) (input_in n (values_at n values) b)
wire_joins n values b h w block = record {
  long = h.wired.one_wire_each b block;
  spans = λ k l. sym (output_read n values (wire_of n b (suc k)) (h.wired.wires_lead b (suc k) (input k l)));
  fits = λ k l. let fits = output_within n (wire_of n b (suc k)) (h.wired.wires_lead b (suc k) (input k l)) in omega (arith, fits, w);
  sizes = λ k l. ap elements (h.joined b (suc k) (input k l));
}
  where
    input : (k : ℕ) → k < length (spec_of n b).ins → IsInput n b (suc k)
    input k l = record { block = block; least = omega arith; most = omega (arith, l) }

-- some values for a net
no_values : (n : Parts) → (values : List ℤ) × IsWhole n values
no_values n = (listed (λ k. pos 0) (all_elements n.specs), (listed_at (λ k. pos 0) (all_elements n.specs)).0)

pub inputs_law : InputsAreGathered
inputs_law = record {
  within = λ n values b h w block. joined_within n values (spec_of n b).ins (numbered [] n.wires b) _ (wire_joins n values b h w block);
  long = λ n b h block. let v = no_values n in joined_length n v.0 (spec_of n b).ins (numbered [] n.wires b) _ (wire_joins n v.0 b h v.1 block);
  same = λ n values b h w block. joined_values n values (spec_of n b).ins (numbered [] n.wires b) (input_in n (values_at n values) b) (wire_joins n values b h w block);
}
