-- Places by block.
use Rattle.std.proofs.Common.{◌≡◌, ℕ, zero, suc, ◌+◌, ◌-◌, ◌<◌, ◌≤◌, List, [], ◌∷◌, ◌++◌, length, map, get_or, ap, sym, ◌∙◌, arith, refl, inl, inr}
use Rattle.std.proofs.lemmas.Bool.{cases_lt}
use Rattle.std.proofs.lemmas.List.{length-map, get_or_append_left, get_or_push}
use Rattle.sci_forms.specs.declared.spec.Spec.{Spec}
use Rattle.sci_forms.specs.Ports.{port_at, elements, total, before}
use Rattle.sci_net.specs.declared.Wire.{Wire}
use Rattle.sci_net.specs.Parts.{Parts, IsOutput, numbered, spec_of, no_spec}
use Rattle.sci_net.proofs.Numbered.{numbered_read, numbered_next}
use Rattle.sci_span.specs.declared.span.Span.{Span}
use Rattle.sci_span.specs.declared.place.Place.{Place}
use Rattle.sci_places.specs.Flat.{start_in}
use Rattle.sci_places.specs.Layout.{Layout, AreStarts, place_at, output_span}
use Rattle.sci_span.specs.Values.{no_place}
use Rattle.sci_places.proofs.Lists.{start_next}

-- the place of a block is the one that is kept for it
pub place_kept : (ps : List Place) (l : Layout) (b : ℕ) (v : Place) → ps ≡ l.blocks → 1 ≤ b → b ≤ length l.blocks → v ≡ get_or ps (b - 1) v
    → place_at l b ≡ v
place_kept ps l b v e h k r =
    let same = ap length e in
    ap (λ ls. numbered no_place ls b) (sym e) ∙ sym (numbered_read no_place ps b v h (omega (arith, k, same)) r)

-- a number from 1 on is that of the element before it
pub numbered_at : {A : Type 0} (d : A) (xs : List A) (b : ℕ) → 1 ≤ b → numbered d xs b ≡ get_or xs (b - 1) d
numbered_at d xs zero h = absurd (omega (arith, h))
numbered_at d xs (suc n) h = let e : suc n - 1 ≡ n = omega arith in rw e refl

-- ---- starts

-- the next block begins behind the outputs of this one
pub start_after : (n : Parts) (k : ℕ) → k < length n.specs → start_in n.specs (k + 1) ≡ start_in n.specs k + total (spec_of n (k + 1)).outs
start_after n k h = start_next n.specs k h ∙ ap (λ (s : Spec). start_in n.specs k + total s.outs) (sym (numbered_next no_spec n.specs k))

-- one more start
pub each_more : (f : ℕ → ℕ) (xs : List ℕ) (i y : ℕ) → length xs ≡ i + 1 → ((k : ℕ) → k ≤ i → get_or xs k 0 ≡ f k) → y ≡ f (i + 1)
    → (k : ℕ) → k ≤ i + 1 → get_or (xs ++ (y ∷ [])) k 0 ≡ f k
each_more f xs i y long earlier here k h = elim (cases_lt k (i + 1)) [
  | inl l ↦ get_or_append_left xs (y ∷ []) 0 k (omega (arith, l, long)) ∙ earlier k (omega (arith, l))
  | inr l ↦ let e : k ≡ i + 1 = omega (arith, l, h) in ap (λ j. get_or (xs ++ (y ∷ [])) j 0) e ∙ (get_or_push xs y 0 (i + 1) long ∙ (here ∙ ap f (sym e)))
]

-- the span of an output
pub output_placed : (n : Parts) (starts : List ℕ) (w : Wire) (s : Spec) (front len : ℕ) → AreStarts n starts → IsOutput n w.block w.port → s ≡ spec_of n w.block
    → front ≡ before s.outs (w.port - 1) → len ≡ elements (port_at s.outs (w.port - 1))
    → (let span : Span = record { start = get_or starts (w.block - 1) 0 + front; len = len } in span) ≡ output_span n w
output_placed n starts w s front len h o e f g =
    let span = λ (a b c : ℕ). let p : Span = record { start = a + b; len = c } in p in
    let a = h.each (w.block - 1) (omega (arith, o.block.most)) in
    let b = f ∙ ap (λ (t : Spec). before t.outs (w.port - 1)) e in
    let c = g ∙ (ap (λ (t : Spec). elements (port_at t.outs (w.port - 1))) e ∙ ap elements (sym (numbered_at _ (spec_of n w.block).outs w.port o.least))) in
    ap (λ x. span x front len) a ∙ (ap (λ x. span (start_in n.specs (w.block - 1)) x len) b ∙ ap (span (start_in n.specs (w.block - 1)) (before (spec_of n w.block).outs (w.port - 1))) c)
