-- The blocks of a bulk diagram: no tag, no port block, and each block keeps the form of its kind.
use Rattle.std.proofs.Common.{◌≡◌, ◌≤◌, ◌<◌, ◌+◌, ◌++◌, ℕ, zero, suc, List, [], ◌∷◌, length, map, Ok, refl, ◌∙◌, ap, arith}
use Rattle.std.specs.Prelude.{slice_index_or}
use Rattle.sci_base.specs.Outcome.{Outcome, ◌>>=◌}
use Rattle.sci_diagram.specs.Objects.{Object, Objects, objects_of}
use Rattle.sci_forms.specs.declared.spec.Spec.{Spec}
use Rattle.sci_net.specs.Parts.{numbered, no_spec}
use Rattle.sci_blocks.specs.declared.class.PortClass.{PortClass}
use Rattle.sci_blocks.specs.declared.class.PortClass.TheVariants.{Input, Output, ActivationInput, ActivationOutput}
use Rattle.sci_blocks.specs.Blocks.{Placed, placed, parts_in, object_parts, parts_of}
use Rattle.sci_blocks.specs.Ports.{no_ports, numbers, first_broken, unless_broken, class_matched, ports_matched}
use Rattle.sci_goto.specs.Phase.{Standing, standing, standing_in, no_tags, tags_of}
use Rattle.sci_goto.proofs.Untagged.{untagged_law}
use Rattle.sci_bulk.specs.declared.data_block.DataBlock.{DataBlock}
use Rattle.sci_bulk.specs.Bulk.{drawing}
use Rattle.sci_bulk.proofs.Shapes.{Each, IsUntagged, all_untagged, IsUnnumbered, all_unnumbered, AreGiven, all_given, GivesNone, links_none, block_objects, link_objects, specs_of}

-- ---- no tags

none_standing : (k : ℕ) (os : List Object) → Each IsUntagged os → standing_in [] k (objects_of os) ≡ []
unfolding standing_in
none_standing k [] h = refl
none_standing k (o ∷ os) h = ap (λ (l : List Standing). l ++ standing_in [] (k + 1) (objects_of os)) (h.0 [] (k ∷ [])) ∙ none_standing (k + 1) os h.1

pub untagged : (ds : List DataBlock) → standing (objects_of (drawing ds)) ≡ []
untagged ds = none_standing 1 (drawing ds) (all_untagged ds)

pub tags_kept : (ds : List DataBlock) → tags_of (objects_of (drawing ds)) ≡ Ok no_tags
tags_kept ds = untagged_law (objects_of (drawing ds)) (untagged ds)

-- ---- no port blocks

none_numbered : (c : PortClass) (os : List Object) → Each IsUnnumbered os → numbers c (objects_of os) ≡ []
none_numbered c [] h = refl
none_numbered c (o ∷ os) h = ap (λ (l : List ℕ). l ++ numbers c (objects_of os)) (h.0 c) ∙ none_numbered c os h.1

class_kept : (t : Objects) (c : PortClass) → numbers c t ≡ [] → class_matched [] no_ports t c ≡ Ok tt
class_kept t c h = ap (λ (ns : List ℕ). unless_broken [] c (first_broken 0 ns)) h

all_kept : (a b c d : Outcome (Unit {0})) → a ≡ Ok tt → b ≡ Ok tt → c ≡ Ok tt → d ≡ Ok tt → (a >>= λ _. b >>= λ _. c >>= λ _. d) ≡ Ok tt
all_kept a b c d h i j k = rw (h, i, j, k) refl

matched : (t : Objects) → ((c : PortClass) → numbers c t ≡ []) → ports_matched [] no_ports t ≡ Ok tt
unfolding ports_matched
matched t h =
    all_kept (class_matched [] no_ports t Input) (class_matched [] no_ports t Output) (class_matched [] no_ports t ActivationInput) (class_matched [] no_ports t ActivationOutput)
    (class_kept t Input (h Input)) (class_kept t Output (h Output)) (class_kept t ActivationInput (h ActivationInput)) (class_kept t ActivationOutput (h ActivationOutput))

-- ---- blocks

-- blocks with these specs, the first of them at position k
abbrev pub placed_from : ℕ → List Spec → List Placed
placed_from k [] = []
placed_from k (s ∷ ss) = placed (k ∷ []) s ∷ placed_from (k + 1) ss

then_parts : (p q : Outcome (List Placed)) (ps qs : List Placed) → p ≡ Ok ps → q ≡ Ok qs → (p >>= λ xs. q >>= λ ys. Ok (xs ++ ys)) ≡ Ok (ps ++ qs)
then_parts p q ps qs a b = rw (a, b) refl

none_placed : (k : ℕ) (os : List Object) → Each GivesNone os → parts_in [] k (objects_of os) ≡ Ok []
unfolding parts_in
none_placed k [] h = refl
none_placed k (o ∷ os) h = then_parts (object_parts (k ∷ []) o) (parts_in [] (k + 1) (objects_of os)) [] [] (h.0 (k ∷ [])) (none_placed (k + 1) os h.1)

all_placed : (k : ℕ) (os rest : List Object) (ss : List Spec) → AreGiven os ss → ((j : ℕ) → parts_in [] j (objects_of rest) ≡ Ok []) → parts_in [] k (objects_of (os ++ rest)) ≡ Ok (placed_from k ss)
unfolding parts_in
all_placed k [] rest [] h none = none k
all_placed k [] rest (s ∷ ss) h none = absurd h
all_placed k (o ∷ os) rest [] h none = absurd h
all_placed k (o ∷ os) rest (s ∷ ss) h none =
    then_parts (object_parts (k ∷ []) o) (parts_in [] (k + 1) (objects_of (os ++ rest))) (placed (k ∷ []) s ∷ []) (placed_from (k + 1) ss) (h.0 (k ∷ [])) (all_placed (k + 1) os rest ss h.1 none)

after : (a : Outcome (Unit {0})) (b : Outcome (List Placed)) (ps : List Placed) → a ≡ Ok tt → b ≡ Ok ps → (a >>= λ _. b) ≡ Ok ps
after a b ps h k = rw (h, k) refl

pub parts_kept : (ds : List DataBlock) → parts_of (objects_of (drawing ds)) ≡ Ok (placed_from 1 (specs_of ds))
unfolding parts_of
parts_kept ds =
    after (ports_matched [] no_ports (objects_of (drawing ds))) (parts_in [] 1 (objects_of (drawing ds))) (placed_from 1 (specs_of ds))
    (matched (objects_of (drawing ds)) (λ c. none_numbered c (drawing ds) (all_unnumbered ds)))
    (all_placed 1 (block_objects ds) (link_objects ds) (specs_of ds) (all_given ds) (λ j. none_placed j (link_objects ds) (links_none ds)))

-- ---- by number

placed_at : (ss : List Spec) (k m : ℕ) → m < length ss → slice_index_or (placed_from k ss) m (placed [] no_spec) ≡ placed ((k + m) ∷ []) (slice_index_or ss m no_spec)
placed_at [] k m l = absurd (omega (arith, l))
placed_at (s ∷ ss) k zero l = ap (λ (i : ℕ). placed (i ∷ []) s) (let e : k ≡ k + 0 = omega arith in e)
placed_at (s ∷ ss) k (suc m) l =
    placed_at ss (k + 1) m (omega (arith, l)) ∙ ap (λ (i : ℕ). placed (i ∷ []) (slice_index_or ss m no_spec)) (let e : k + 1 + m ≡ k + suc m = omega arith in e)

-- block b is the object at position b
pub block_is : (ss : List Spec) (b : ℕ) → 1 ≤ b → b ≤ length ss → numbered (placed [] no_spec) (placed_from 1 ss) b ≡ placed (b ∷ []) (numbered no_spec ss b)
block_is ss zero l m = absurd (omega (arith, l))
block_is ss (suc b) l m = placed_at ss 1 b (omega (arith, m)) ∙ ap (λ (i : ℕ). placed (i ∷ []) (slice_index_or ss b no_spec)) (let e : 1 + b ≡ suc b = omega arith in e)

pub placed_length : (k : ℕ) (ss : List Spec) → length (placed_from k ss) ≡ length ss
placed_length k [] = refl
placed_length k (s ∷ ss) = ap suc (placed_length (k + 1) ss)

pub placed_specs : (k : ℕ) (ss : List Spec) → map (λ (p : Placed). p.spec) (placed_from k ss) ≡ ss
placed_specs k [] = refl
placed_specs k (s ∷ ss) = ap (λ (l : List Spec). s ∷ l) (placed_specs (k + 1) ss)
