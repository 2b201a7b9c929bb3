-- What is observed of values that are shown in pieces.
use Rattle.std.proofs.Common.{◌≡◌, ℕ, zero, suc, ◌+◌, ◌-◌, ◌<◌, ◌≤◌, ℤ, pos, List, [], ◌∷◌, ◌++◌, length, get_or, take, drop, map, refl, sym, ap, ap₂, ◌∙◌, arith}
use Rattle.std.proofs.lemmas.List.{length-take-le, length-drop, take_at, drop_at, take-take, drop-drop, take-append-drop, take-map, drop-map, drop-take}
use Rattle.sci_base.specs.declared.observation.Obs.{Obs}
use Rattle.sci_base.specs.declared.observation.Obs.TheVariants.{Val}
use Rattle.sci_trace.specs.Lines.{text}
use Rattle.sci_forms.specs.declared.ports.Port.{Port}
use Rattle.sci_forms.specs.declared.spec.Spec.{Spec}
use Rattle.sci_forms.specs.Ports.{elements, total}
use Rattle.sci_net.specs.Parts.{Parts, IsBlock, spec_of, no_spec}
use Rattle.sci_run.specs.Observed.{elements_seen, outputs_seen}
use Rattle.sci_places.specs.Flat.{start_in, start_of, values_at, IsWhole}
use Rattle.sci_span.proofs.Runs.{read_length}
use Rattle.sci_places.proofs.Outputs.{block_within}
use Rattle.sci_store.specs.Heads.{named_elements, named_outputs, named_blocks}
use Rattle.sci_lines.specs.Lines.{Named, start_text, value_of, value_lines}
use Rattle.sci_store.specs.Tally.{lines_after, sum_after, sum_with}
use Rattle.sci_store.specs.Store.{Standing}
use Rattle.sci_store.specs.Rows.{between}
use Rattle.sci_store.specs.Written.{sum_of, tallied, tallied_values}
use Rattle.sci_store.proofs.LineStarts.{named_length, outputs_length}
use Rattle.sci_lines.proofs.Paging.{line_is}

-- ---- values by their names

abbrev pub named_values : List Named → List ℤ → List Obs
named_values [] vs = []
named_values (n ∷ ns) [] = []
named_values (n ∷ ns) (v ∷ vs) = value_of n v ∷ named_values ns vs

pub named-append : (ms ns : List Named) (us vs : List ℤ) → length ms ≡ length us → named_values (ms ++ ns) (us ++ vs) ≡ named_values ms us ++ named_values ns vs
named-append [] ns [] vs h = refl
named-append [] ns (u ∷ us) vs h = absurd (omega (arith, h))
named-append (m ∷ ms) ns [] vs h = absurd (omega (arith, h))
named-append (m ∷ ms) ns (u ∷ us) vs h = ap (λ (l : List Obs). value_of m u ∷ l) (named-append ms ns us vs (omega (arith, h)))

pub named_count : (ns : List Named) (vs : List ℤ) → length ns ≡ length vs → length (named_values ns vs) ≡ length vs
named_count [] [] h = refl
named_count [] (v ∷ vs) h = absurd (omega (arith, h))
named_count (n ∷ ns) [] h = absurd (omega (arith, h))
named_count (n ∷ ns) (v ∷ vs) h = ap suc (named_count ns vs (omega (arith, h)))

-- the lines of values are the text of what is observed of them
pub lines_named : (ns : List Named) (vs : List ℤ) → value_lines (map start_text ns) vs ≡ text (named_values ns vs)
lines_named [] vs = refl
lines_named (n ∷ ns) [] = refl
lines_named (n ∷ ns) (v ∷ vs) = ap₂ (λ (l m : List ℕ). l ++ m) (sym (line_is n v)) (lines_named ns vs)

sum_named : (sum : ℕ) (ns : List Named) (vs : List ℤ) → length ns ≡ length vs → sum_with sum vs ≡ sum_of sum (named_values ns vs)
sum_named sum [] [] h = refl
sum_named sum [] (v ∷ vs) h = absurd (omega (arith, h))
sum_named sum (n ∷ ns) [] h = absurd (omega (arith, h))
sum_named sum (n ∷ ns) (v ∷ vs) h = sum_named (sum_after sum v) ns vs (omega (arith, h))

-- and they are counted as that
pub tallied_named : (s : Standing) (ns : List Named) (vs : List ℤ) → length ns ≡ length vs → tallied_values s vs ≡ tallied s (named_values ns vs)
tallied_named s ns vs h =
    ap (λ (k : ℕ). record s { lines = lines_after s.lines k; sum = sum_with s.sum vs }) (sym (named_count ns vs h))
    ∙ ap (λ (k : ℕ). record s { lines = lines_after s.lines (length (named_values ns vs)); sum = k }) (sum_named s.sum ns vs h)

elements_named : (b p e : ℕ) (vs : List ℤ) → elements_seen b p e vs ≡ named_values (named_elements b p e (length vs)) vs
elements_named b p e [] = refl
elements_named b p e (v ∷ vs) = ap (λ (l : List Obs). Val (pos b) (pos p) (pos e) v ∷ l) (elements_named b p (e + 1) vs)

-- what is observed of a block
pub outputs_named : (b p : ℕ) (os : List Port) (vs : List ℤ) → length vs ≡ total os → outputs_seen b p os vs ≡ named_values (named_outputs b p os) vs
outputs_named b p [] vs h = refl
outputs_named b p (o ∷ os) vs h =
    let front = length-take-le (elements o) vs (omega (arith, h)) in
    let back = length-drop (elements o) vs in
    ap (λ (l : List Obs). l ++ outputs_seen b (p + 1) os (drop (elements o) vs))
    (elements_named b p 1 (take (elements o) vs) ∙ ap (λ (k : ℕ). named_values (named_elements b p 1 k) (take (elements o) vs)) front)
    ∙ (ap (λ (l : List Obs). named_values (named_elements b p 1 (elements o)) (take (elements o) vs) ++ l) (outputs_named b (p + 1) os (drop (elements o) vs) (omega (arith, back, h)))
    ∙ (sym (named-append (named_elements b p 1 (elements o)) (named_outputs b (p + 1) os) (take (elements o) vs) (drop (elements o) vs)
    (named_length b p 1 (elements o) ∙ sym front))
    ∙ ap (named_values (named_elements b p 1 (elements o) ++ named_outputs b (p + 1) os)) (take-append-drop (elements o) vs)))

-- ---- pieces of a list

pub between_length : {A : Type 0} (xs : List A) (start end : ℕ) → start ≤ end → end ≤ length xs → length (between xs start end) ≡ end - start
between_length xs start end order within =
    let long = length-drop start xs in length-take-le (end - start) (drop start xs) (omega (arith, long, within))

pub between_map : {A B : Type 0} (g : A → B) (xs : List A) (start end : ℕ) → between (map g xs) start end ≡ map g (between xs start end)
between_map g xs start end = ap (take (end - start)) (drop-map g start xs) ∙ take-map g (end - start) (drop start xs)

pub between_none : {A : Type 0} (xs : List A) (start end : ℕ) → end ≤ start → between xs start end ≡ []
between_none xs start end h = let none : end - start ≡ 0 = omega (arith, h) in ap (λ (k : ℕ). take k (drop start xs)) none

take_two : {A : Type 0} (m n : ℕ) (xs : List A) → take (m + n) xs ≡ take m xs ++ take n (drop m xs)
take_two m n xs =
    sym (take-append-drop m (take (m + n) xs))
    ∙ ap₂ (λ (l r : List _). l ++ r) (take-take m (m + n) xs (omega arith)) (drop-take m n xs)

-- two pieces that adjoin
pub between_joined : {A : Type 0} (xs : List A) (start mid end : ℕ) → start ≤ mid → mid ≤ end → between xs start end ≡ between xs start mid ++ between xs mid end
between_joined {A} xs start mid end l m =
    let both : end - start ≡ mid - start + (end - mid) = omega (arith, l, m) in
    let there : start + (mid - start) ≡ mid = omega (arith, l) in
    ap (λ (k : ℕ). take k (drop start xs)) both
    ∙ (take_two (mid - start) (end - mid) (drop start xs)
    ∙ (ap (λ (ys : List A). take (mid - start) (drop start xs) ++ take (end - mid) ys) (drop-drop (mid - start) start xs)
    ∙ ap (λ (k : ℕ). take (mid - start) (drop start xs) ++ take (end - mid) (drop k xs)) there))

-- ---- the names of a block's values

block_names : (b : ℕ) (ss : List Spec) (j : ℕ) → j < length ss
    → take (total (get_or ss j no_spec).outs) (drop (start_in ss j) (named_blocks b ss)) ≡ named_outputs (b + j) 1 (get_or ss j no_spec).outs
block_names b [] j l = absurd (omega (arith, l))
block_names b (s ∷ ss) zero l =
    let same : b ≡ b + 0 = omega arith in
    take_at (named_outputs b 1 s.outs) (named_blocks (b + 1) ss) (total s.outs) (outputs_length b 1 s.outs) ∙ ap (λ (i : ℕ). named_outputs i 1 s.outs) same
block_names b (s ∷ ss) (suc j) l =
    let same : b + 1 + j ≡ b + suc j = omega arith in
    ap (take (total (get_or ss j no_spec).outs))
    (sym (drop-drop (start_in ss j) (total s.outs) (named_outputs b 1 s.outs ++ named_blocks (b + 1) ss))
    ∙ ap (drop (start_in ss j)) (drop_at (named_outputs b 1 s.outs) (named_blocks (b + 1) ss) (total s.outs) (outputs_length b 1 s.outs)))
    ∙ (block_names (b + 1) ss j (omega (arith, l)) ∙ ap (λ (i : ℕ). named_outputs i 1 (get_or ss j no_spec).outs) same)

-- what is observed from one place to before another
abbrev pub seen_between : Parts → List ℤ → (start end : ℕ) → List Obs
seen_between n values start end = named_values (between (named_blocks 1 n.specs) start end) (between values start end)

-- of the values of a block
pub block_seen_between : (n : Parts) (values : List ℤ) (b : ℕ) → IsWhole n values → IsBlock n b
    → seen_between n values (start_of n b) (start_of n b + total (spec_of n b).outs) ≡ outputs_seen b 1 (spec_of n b).outs (values_at n values b)
block_seen_between n values zero whole block = absurd (omega (arith, block.least))
block_seen_between n values (suc j) whole block =
    let len : start_of n (suc j) + total (spec_of n (suc j)).outs - start_of n (suc j) ≡ total (spec_of n (suc j)).outs = omega arith in
    let e : suc j - 1 ≡ j = omega arith in
    let same : 1 + j ≡ suc j = omega arith in
    let fits = block_within n (suc j) block in
    let long = read_length values (start_of n (suc j)) (total (spec_of n (suc j)).outs) (omega (arith, fits, whole)) in
    ap (λ (k : ℕ). named_values (take k (drop (start_of n (suc j)) (named_blocks 1 n.specs))) (take k (drop (start_of n (suc j)) values))) len
    ∙ (ap (λ (ns : List Named). named_values ns (values_at n values (suc j)))
    (ap (λ (i : ℕ). take (total (spec_of n (suc j)).outs) (drop (start_in n.specs i) (named_blocks 1 n.specs))) e
    ∙ (block_names 1 n.specs j (omega (arith, block.most)) ∙ ap (λ (i : ℕ). named_outputs i 1 (spec_of n (suc j)).outs) same))
    ∙ sym (outputs_named (suc j) 1 (spec_of n (suc j)).outs (values_at n values (suc j)) long))
