-- The starts of the lines of a net's values.
use Rattle.std.proofs.Common.{◌≡◌, ℕ, zero, suc, ◌+◌, ◌-◌, ◌<◌, ◌≤◌, true, ℤ, pos, List, [], ◌∷◌, ◌++◌, length, get_or, take, drop, map, refl, sym, ap, ◌∙◌, append_assoc, arith, inl, inr}
use Rattle.std.proofs.lemmas.Bool.{cases_lt}
use Rattle.std.proofs.lemmas.List.{drop_more, get_or-take, get_or-drop, get_or_append_left, get_or-append_right, get_or-map, length-append, length-map, length-drop, length-take-le, append-nil, map-append}
use Rattle.sci_base.specs.declared.observation.Obs.{Obs}
use Rattle.sci_base.specs.declared.observation.Obs.TheVariants.{Start, Val}
use Rattle.sci_forms.specs.declared.Kind.{Kind}
use Rattle.sci_forms.specs.declared.Kind.TheVariants.{Const}
use Rattle.sci_forms.specs.declared.ports.Port.{Port}
use Rattle.sci_forms.specs.declared.spec.Spec.{Spec}
use Rattle.sci_forms.specs.Forms.{counts_of}
use Rattle.sci_forms.specs.Ports.{port_at, no_port, elements, total}
use Rattle.sci_forms.specs.Typed.{typed}
use Rattle.sci_kinds.proofs.TypedLemmas.{tests}
use Rattle.sci_net.specs.Parts.{Parts, IsBlock, spec_of, no_spec}
use Rattle.sci_net.specs.Net.{all_elements}
use Rattle.sci_run.specs.Observed.{elements_seen, outputs_seen}
use Rattle.sci_places.specs.Flat.{start_in, start_of, values_at, IsWhole}
use Rattle.sci_span.proofs.Runs.{read_length}
use Rattle.sci_places.proofs.Outputs.{block_within}
use Rattle.sci_store.specs.Heads.{named_elements, named_outputs, named_blocks, heads_of}
use Rattle.sci_lines.specs.Lines.{Named, start_text, value_of}
use Rattle.sci_store.specs.Frame.{Fixed, IsFrame}

abbrev pub nobody : Named
nobody = record { block = 0; port = 0; element = 0 }

-- ---- few outputs

outs_most : (c : Kind) (k : ℕ) → (counts_of c k).outs_most ≤ 64
outs_most Const k = omega arith
outs_most _ k = omega arith

pub few_outs : (s : Spec) → typed s ≡ true → length s.outs ≤ 64
few_outs s h = omega (arith, outs_most s.kind (length s.ins), (tests s.kind s h).outs_most)

-- ---- one behind the other

-- with one piece more, of what is still to come
pub put_more : (old mid new piece rest whole : List (List ℕ)) → new ≡ mid ++ piece → mid ++ (piece ++ rest) ≡ old ++ whole → new ++ rest ≡ old ++ whole
put_more old mid new piece rest whole e h = ap (λ (l : List (List ℕ)). l ++ rest) e ∙ (append_assoc mid piece rest ∙ h)

pub put_all : (old new rest whole : List (List ℕ)) → rest ≡ [] → new ++ rest ≡ old ++ whole → new ≡ old ++ whole
put_all old new rest whole e h = sym (append-nil new) ∙ (ap (λ (l : List (List ℕ)). new ++ l) (sym e) ∙ h)

abbrev pub elements_left : (b p count k : ℕ) → List (List ℕ)
elements_left b p count k = map start_text (named_elements b p (k + 1) (count - k))

pub elements_next : (b p count k : ℕ) → k < count
    → elements_left b p count k ≡ (start_text (record { block = b; port = p; element = k + 1 }) ∷ []) ++ elements_left b p count (k + 1)
elements_next b p count k h =
    let e : count - k ≡ suc (count - (k + 1)) = omega (arith, h) in ap (λ (m : ℕ). map start_text (named_elements b p (k + 1) m)) e

pub elements_none : (b p count k : ℕ) → count ≤ k → elements_left b p count k ≡ []
elements_none b p count k h = let e : count - k ≡ 0 = omega (arith, h) in ap (λ (m : ℕ). map start_text (named_elements b p (k + 1) m)) e

abbrev pub outputs_left : (b : ℕ) → List Port → (k : ℕ) → List (List ℕ)
outputs_left b outs k = map start_text (named_outputs b (k + 1) (drop k outs))

pub outputs_next : (b k : ℕ) (outs : List Port) → k < length outs
    → outputs_left b outs k ≡ map start_text (named_elements b (k + 1) 1 (elements (port_at outs k))) ++ outputs_left b outs (k + 1)
outputs_next b k outs h =
    ap (λ (os : List Port). map start_text (named_outputs b (k + 1) os)) (drop_more outs k no_port h)
    ∙ map-append start_text (named_elements b (k + 1) 1 (elements (port_at outs k))) (named_outputs b (k + 1 + 1) (drop (k + 1) outs))

abbrev pub blocks_left : List Spec → (k : ℕ) → List (List ℕ)
blocks_left ss k = map start_text (named_blocks (k + 1) (drop k ss))

pub blocks_next : (k : ℕ) (ss : List Spec) → k < length ss
    → blocks_left ss k ≡ map start_text (named_outputs (k + 1) 1 (get_or ss k no_spec).outs) ++ blocks_left ss (k + 1)
blocks_next k ss h =
    ap (λ (us : List Spec). map start_text (named_blocks (k + 1) us)) (drop_more ss k no_spec h)
    ∙ map-append start_text (named_outputs (k + 1) 1 (get_or ss k no_spec).outs) (named_blocks (k + 1 + 1) (drop (k + 1) ss))

-- ---- how many there are

pub named_length : (b p e count : ℕ) → length (named_elements b p e count) ≡ count
named_length b p e zero = refl
named_length b p e (suc count) = ap suc (named_length b p (e + 1) count)

pub outputs_length : (b p : ℕ) (os : List Port) → length (named_outputs b p os) ≡ total os
outputs_length b p [] = refl
outputs_length b p (o ∷ os) =
    let here = named_length b p 1 (elements o) in
    let rest = outputs_length b (p + 1) os in
    length-append (named_elements b p 1 (elements o)) (named_outputs b (p + 1) os) ∙ omega (arith, here, rest)

pub blocks_length : (b : ℕ) (ss : List Spec) → length (named_blocks b ss) ≡ all_elements ss
blocks_length b [] = refl
blocks_length b (s ∷ ss) =
    let here = outputs_length b 1 s.outs in
    let rest = blocks_length (b + 1) ss in
    length-append (named_outputs b 1 s.outs) (named_blocks (b + 1) ss) ∙ omega (arith, here, rest)

pub heads_length : (n : Parts) → length (heads_of n) ≡ all_elements n.specs
heads_length n = length-map (named_blocks 1 n.specs) start_text ∙ blocks_length 1 n.specs

seen_length : (b p e : ℕ) (vs : List ℤ) → length (elements_seen b p e vs) ≡ length vs
seen_length b p e [] = refl
seen_length b p e (v ∷ vs) = ap suc (seen_length b p (e + 1) vs)

pub outputs_seen_length : (b p : ℕ) (os : List Port) (vs : List ℤ) → length vs ≡ total os → length (outputs_seen b p os vs) ≡ total os
outputs_seen_length b p [] vs h = refl
outputs_seen_length b p (o ∷ os) vs h =
    let front = length-take-le (elements o) vs (omega (arith, h)) in
    let back = length-drop (elements o) vs in
    let here = seen_length b p 1 (take (elements o) vs) in
    let rest = outputs_seen_length b (p + 1) os (drop (elements o) vs) (omega (arith, back, h)) in
    length-append (elements_seen b p 1 (take (elements o) vs)) (outputs_seen b (p + 1) os (drop (elements o) vs)) ∙ omega (arith, front, here, rest)

-- ---- which stands where

named_at : (b p e count k : ℕ) → k < count → get_or (named_elements b p e count) k nobody ≡ record { block = b; port = p; element = e + k }
named_at b p e zero k h = absurd (omega (arith, h))
named_at b p e (suc count) zero h = let same : e ≡ e + 0 = omega arith in ap (λ (x : ℕ). let n : Named = record { block = b; port = p; element = x } in n) same
named_at b p e (suc count) (suc k) h =
    let same : e + 1 + k ≡ e + suc k = omega arith in
    named_at b p (e + 1) count k (omega (arith, h)) ∙ ap (λ (x : ℕ). let n : Named = record { block = b; port = p; element = x } in n) same

seen_at : (b p e : ℕ) (vs : List ℤ) (k : ℕ) → k < length vs
    → get_or (elements_seen b p e vs) k Start ≡ value_of (record { block = b; port = p; element = e + k }) (get_or vs k (pos 0))
seen_at b p e [] k h = absurd (omega (arith, h))
seen_at b p e (v ∷ vs) zero h = let same : e ≡ e + 0 = omega arith in ap (λ (x : ℕ). Val (pos b) (pos p) (pos x) v) same
seen_at b p e (v ∷ vs) (suc k) h =
    let same : e + 1 + k ≡ e + suc k = omega arith in
    seen_at b p (e + 1) vs k (omega (arith, h)) ∙ ap (λ (x : ℕ). Val (pos b) (pos p) (pos x) (get_or vs k (pos 0))) same

-- what is observed of value k of a block, by its name
pub value_seen : (b p : ℕ) (os : List Port) (vs : List ℤ) (k : ℕ) → length vs ≡ total os → k < total os
    → get_or (outputs_seen b p os vs) k Start ≡ value_of (get_or (named_outputs b p os) k nobody) (get_or vs k (pos 0))
value_seen b p [] vs k long h = absurd (omega (arith, h))
value_seen b p (o ∷ os) vs k long h = elim (cases_lt k (elements o)) [
  | inl l ↦
      get_or_append_left seen (outputs_seen b (p + 1) os (drop (elements o) vs)) Start k (omega (arith, l, seen_long, front))
      ∙ (seen_at b p 1 (take (elements o) vs) k (omega (arith, l, front))
      ∙ (ap (value_of (record { block = b; port = p; element = 1 + k })) (get_or-take (elements o) vs k (pos 0) l)
      ∙ ap (λ (n : Named). value_of n (get_or vs k (pos 0)))
      (sym (get_or_append_left names (named_outputs b (p + 1) os) nobody k (omega (arith, l, names_long)) ∙ named_at b p 1 (elements o) k l))))
  | inr l ↦
      let j : ℕ = k - elements o in
      let there : elements o + j ≡ k = omega (arith, l) in
      get_or-append_right seen (outputs_seen b (p + 1) os (drop (elements o) vs)) (elements o) k Start (seen_long ∙ front) l
      ∙ (value_seen b (p + 1) os (drop (elements o) vs) j (omega (arith, back, long)) (omega (arith, l, h))
      ∙ (ap (value_of (get_or (named_outputs b (p + 1) os) j nobody)) (get_or-drop (elements o) vs j (pos 0) ∙ ap (λ (i : ℕ). get_or vs i (pos 0)) there)
      ∙ ap (λ (n : Named). value_of n (get_or vs k (pos 0))) (sym (get_or-append_right names (named_outputs b (p + 1) os) (elements o) k nobody names_long l))))
]
  where
    seen : List Obs
    seen = elements_seen b p 1 (take (elements o) vs)

    names : List Named
    names = named_elements b p 1 (elements o)

    front : length (take (elements o) vs) ≡ elements o
    front = length-take-le (elements o) vs (omega (arith, long))

    back : length (drop (elements o) vs) ≡ length vs - elements o
    back = length-drop (elements o) vs

    seen_long : length seen ≡ length (take (elements o) vs)
    seen_long = seen_length b p 1 (take (elements o) vs)

    names_long : length names ≡ elements o
    names_long = named_length b p 1 (elements o)

-- the name of element k of the outputs of a block
block_named : (b : ℕ) (ss : List Spec) (j k : ℕ) → j < length ss → k < total (get_or ss j no_spec).outs
    → get_or (named_blocks b ss) (start_in ss j + k) nobody ≡ get_or (named_outputs (b + j) 1 (get_or ss j no_spec).outs) k nobody
block_named b [] j k l h = absurd (omega (arith, l))
block_named b (s ∷ ss) zero k l h =
    let long = outputs_length b 1 s.outs in
    let same : b ≡ b + 0 = omega arith in
    let first : 0 + k ≡ k = omega arith in
    ap (λ (i : ℕ). get_or (named_blocks b (s ∷ ss)) i nobody) first
    ∙ (get_or_append_left (named_outputs b 1 s.outs) (named_blocks (b + 1) ss) nobody k (omega (arith, long, h))
    ∙ ap (λ (i : ℕ). get_or (named_outputs i 1 s.outs) k nobody) same)
block_named b (s ∷ ss) (suc j) k l h =
    let behind : total s.outs + start_in ss j + k - total s.outs ≡ start_in ss j + k = omega arith in
    let same : b + 1 + j ≡ b + suc j = omega arith in
    get_or-append_right (named_outputs b 1 s.outs) (named_blocks (b + 1) ss) (total s.outs) (total s.outs + start_in ss j + k) nobody (outputs_length b 1 s.outs) (omega arith)
    ∙ (ap (λ (i : ℕ). get_or (named_blocks (b + 1) ss) i nobody) behind
    ∙ (block_named (b + 1) ss j k (omega (arith, l)) h ∙ ap (λ (i : ℕ). get_or (named_outputs i 1 (get_or ss j no_spec).outs) k nobody) same))

-- where the line of value k of a block begins as is told
pub head_at : (f : Fixed) (b k : ℕ) → IsFrame f → IsBlock f.net b → k < total (spec_of f.net b).outs
    → get_or f.heads (start_of f.net b + k) [] ≡ start_text (get_or (named_outputs b 1 (spec_of f.net b).outs) k nobody)
head_at f zero k frame block h = absurd (omega (arith, block.least))
head_at f (suc j) k frame block h =
    let n = f.net in
    let e : suc j - 1 ≡ j = omega arith in
    let within = block_within n (suc j) block in
    let long = blocks_length 1 n.specs in
    let same : 1 + j ≡ suc j = omega arith in
    ap (λ (hs : List (List ℕ)). get_or hs (start_of n (suc j) + k) []) frame.heads
    ∙ (get_or-map start_text (named_blocks 1 n.specs) (start_of n (suc j) + k) nobody [] (omega (arith, within, long, h))
    ∙ ap start_text
    (ap (λ (i : ℕ). get_or (named_blocks 1 n.specs) (start_in n.specs i + k) nobody) e
    ∙ (block_named 1 n.specs j k (omega (arith, block.most)) h
    ∙ ap (λ (i : ℕ). get_or (named_outputs i 1 (get_or n.specs j no_spec).outs) k nobody) same)))

-- as many observations as a block has values
pub block_seen_length : (n : Parts) (values : List ℤ) (b : ℕ) → IsWhole n values → IsBlock n b
    → (length (values_at n values b) ≡ total (spec_of n b).outs) × (length (outputs_seen b 1 (spec_of n b).outs (values_at n values b)) ≡ total (spec_of n b).outs)
block_seen_length n values b whole block =
    let fits = block_within n b block in
    let long = read_length values (start_of n b) (total (spec_of n b).outs) (omega (arith, fits, whole)) in
    (long, outputs_seen_length b 1 (spec_of n b).outs (values_at n values b) long)
