-- What lies on the inputs of a block, element by element.
use Rattle.std.proofs.Common.{◌≡◌, ℕ, zero, suc, ◌+◌, ◌-◌, ◌<◌, ◌≤◌, ℤ, pos, List, [], ◌∷◌, length, drop, refl, sym, ap, subst, ◌∙◌, arith}
use Rattle.std.proofs.lemmas.List.{get_or-take, get_or-drop, get_or_append_left, get_or-append_right}
use Rattle.sci_base.specs.Lists.{at, listed}
use Rattle.sci_forms.specs.declared.ports.Port.{Port}
use Rattle.sci_forms.specs.Ports.{no_port, port_at, elements, total, before}
use Rattle.sci_kinds.specs.Asks.{laid}
use Rattle.sci_kinds.proofs.Elements.{listed_at}
use Rattle.sci_net.specs.Net.{IsNet}
use Rattle.sci_net.specs.Parts.{Parts, IsInput, numbered, spec_of, wire_of, input_of}
use Rattle.sci_reaction.specs.Equations.{Signals, output_among, input_in, all_inputs}
use Rattle.sci_ranges.specs.Reads.{fed_element}

-- element d of input k, counted from 0, among all that is laid
pub laid_at : (ps : List Port) (xs : ℕ → List ℤ) (k d : ℕ) → k < length ps → d < elements (port_at ps k) → at (laid ps xs) (before ps k + d) ≡ at (xs (suc k)) d
laid_at [] xs k d h l = absurd (omega (arith, h))
laid_at (p ∷ ps) xs zero d h l =
    let g = listed_at (at (xs 1)) (elements p) in
    let e : 0 + d ≡ d = omega arith in
    ap (at (laid (p ∷ ps) xs)) e ∙ (get_or_append_left (listed (at (xs 1)) (elements p)) (laid ps (λ k. xs (suc k))) (pos 0) d (omega (arith, l, g.0)) ∙ g.1 d l)
laid_at (p ∷ ps) xs (suc k) d h l =
    let g = (listed_at (at (xs 1)) (elements p)).0 in
    let j : (elements p + before ps k + d) - elements p ≡ before ps k + d = omega arith in
    get_or-append_right (listed (at (xs 1)) (elements p)) (laid ps (λ k. xs (suc k))) (elements p) (elements p + before ps k + d) (pos 0) g (omega arith)
    ∙ (ap (at (laid ps (λ k. xs (suc k)))) j ∙ laid_at ps (λ k. xs (suc k)) k d (omega (arith, h)) l)

-- an element of one output among those of all
output_at : (ps : List Port) (vs : List ℤ) (p d : ℕ) → 1 ≤ p → d < elements (numbered no_port ps p) → at (output_among ps vs p) d ≡ at vs (before ps (p - 1) + d)
output_at ps vs zero d h l = absurd (omega (arith, h))
output_at ps vs (suc k) d h l =
    let less : suc k - 1 ≡ k = omega arith in
    get_or-take (elements (port_at ps k)) (drop (before ps k) vs) d (pos 0) l ∙ (get_or-drop (before ps k) vs d (pos 0) ∙ ap (λ j. at vs (before ps j + d)) (sym less))

-- what a wire has is what its feeder's output has
pub wire_at : (n : Parts) → IsNet n → (y : Signals) (b k d : ℕ) → IsInput n b k → d < elements (input_of n b k)
    → at (input_in n y b k) d ≡ at (y (wire_of n b k).block) (fed_element n b k d)
wire_at n net y b k d within l =
    let w = wire_of n b k in
    let out = net.wired.wires_lead b k within in
    output_at (spec_of n w.block).outs (y w.block) w.port d out.least (subst (λ p. d < elements p) (sym (net.joined b k within)) l)

-- and so among all that goes in, whatever the other inputs have
pub element_at : (n : Parts) → IsNet n → (y : Signals) (xs : ℕ → List ℤ) (b k d : ℕ) → xs (suc k) ≡ input_in n y b (suc k) → IsInput n b (suc k) → d < elements (input_of n b (suc k))
    → at (all_inputs (spec_of n b) xs) (before (spec_of n b).ins k + d) ≡ at (y (wire_of n b (suc k)).block) (fed_element n b (suc k) d)
element_at n net y xs b k d same within l =
    laid_at (spec_of n b).ins xs k d (omega (arith, within.most)) l ∙ (ap (λ (vs : List ℤ). at vs d) same ∙ wire_at n net y b (suc k) d within l)

pub input_at : (n : Parts) → IsNet n → (y : Signals) (b k d : ℕ) → IsInput n b (suc k) → d < elements (input_of n b (suc k))
    → at (all_inputs (spec_of n b) (input_in n y b)) (before (spec_of n b).ins k + d) ≡ at (y (wire_of n b (suc k)).block) (fed_element n b (suc k) d)
input_at n net y b k d within l = element_at n net y (input_in n y b) b k d refl within l

-- the elements of a port stand behind those of the ports before it
pub before_next : (ps : List Port) (k : ℕ) → k < length ps → before ps (suc k) ≡ before ps k + elements (port_at ps k)
before_next [] k h = absurd (omega (arith, h))
before_next (p ∷ ps) zero h = omega arith
before_next (p ∷ ps) (suc k) h = let rest = before_next ps k (omega (arith, h)) in omega (arith, rest)

pub before_within : (ps : List Port) (k : ℕ) → k < length ps → before ps k + elements (port_at ps k) ≤ total ps
before_within [] k h = absurd (omega (arith, h))
before_within (p ∷ ps) zero h = omega arith
before_within (p ∷ ps) (suc k) h = let rest = before_within ps k (omega (arith, h)) in omega (arith, rest)
