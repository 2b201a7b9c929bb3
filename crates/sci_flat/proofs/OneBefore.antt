-- One step at most leads to a regular port.
use Rattle.std.proofs.Common.{◌≡◌, ℕ, ◌+◌, ◌≤◌, ℤ, pos, negsuc, List, [], ◌∷◌, ◌++◌, length, inl, inr, Option, Some, None, sym, ◌∙◌, arith}
use Rattle.std.specs.List.{zip}
use Rattle.sci_base.specs.Plain.{Fields}
use Rattle.sci_diagram.specs.declared.diagram.End.{End}
use Rattle.sci_diagram.specs.Objects.{Object, block, superblock, link, text, deleted, Objects, no_objects, object}
use Rattle.sci_blocks.specs.declared.class.PortClass.{PortClass}
use Rattle.sci_blocks.specs.declared.class.PortClass.TheVariants.{Input, Output, ActivationInput, ActivationOutput}
use Rattle.sci_blocks.specs.declared.class.LinkType.{LinkType}
use Rattle.sci_blocks.specs.declared.pass_through.PassThrough.{PassThrough}
use Rattle.sci_blocks.specs.declared.pass_through.PassThrough.TheVariants.{Split, ActivationSplit, Union, PortBlock, Giver, Taker}
use Rattle.sci_blocks.specs.Ports.{ports, no_ports, object_number, numbers, times}
use Rattle.sci_blocks.specs.Rows.{pass_through}
use Rattle.sci_blocks.specs.Wiring.{link_type, source_class, target_class, fed_by}
use Rattle.sci_blocks.specs.Kept.{AreObjectsKept, IsObjectKept, AreBlocksKept, regular_ends, ends_at, AreEndsKept, AreObjectEndsKept, AreLinksKept}
use Rattle.sci_blocks.proofs.Keeping.{at_most_once}
use Rattle.sci_flat.specs.Chain.{Step}
use Rattle.sci_flat.specs.Ports.{Port, place_port, link_steps, numbered_steps, through_steps, steps_of, object_steps, tree_steps}
use Rattle.sci_flat.specs.Laws.{IsRegular}
use Rattle.sci_flat.proofs.Lists.{step_append, times-append, ends_at-append}
use Rattle.sci_flat.proofs.Leads.{apart, irregular, splits, unites, leads, object_leads}

-- ---- one object

numbered_one : (at here : List ℕ) (c : PortClass) (ps : List ℤ) (p p' q : Port) → Step (numbered_steps at here c ps) p q → Step (numbered_steps at here c ps) p' q → p ≡ p'
numbered_one at here c [] p p' q s t = absurd s
numbered_one at here c (n ∷ m ∷ ns) p p' q s t = absurd s
numbered_one at here Input (n ∷ []) p p' q (inl s) (inl t) = sym s.0 ∙ t.0
numbered_one at here Input (n ∷ []) p p' q (inr s) t = absurd s
numbered_one at here Input (n ∷ []) p p' q (inl s) (inr t) = absurd t
numbered_one at here Output (n ∷ []) p p' q (inl s) (inl t) = sym s.0 ∙ t.0
numbered_one at here Output (n ∷ []) p p' q (inr s) t = absurd s
numbered_one at here Output (n ∷ []) p p' q (inl s) (inr t) = absurd t
numbered_one at here ActivationInput (n ∷ []) p p' q (inl s) (inl t) = sym s.0 ∙ t.0
numbered_one at here ActivationInput (n ∷ []) p p' q (inr s) t = absurd s
numbered_one at here ActivationInput (n ∷ []) p p' q (inl s) (inr t) = absurd t
numbered_one at here ActivationOutput (n ∷ []) p p' q (inl s) (inl t) = sym s.0 ∙ t.0
numbered_one at here ActivationOutput (n ∷ []) p p' q (inr s) t = absurd s
numbered_one at here ActivationOutput (n ∷ []) p p' q (inl s) (inr t) = absurd t

through_one : (at here : List ℕ) (f : Fields) (o : Option PassThrough) (p p' q : Port) → IsRegular q.class → Step (through_steps at here f o) p q → Step (through_steps at here f o) p' q → p ≡ p'
through_one at here f None p p' q r s t = absurd s
through_one at here f (Some Split) p p' q r s t = sym (splits here Input Output (length f.outs) p q s).source ∙ (splits here Input Output (length f.outs) p' q t).source
through_one at here f (Some ActivationSplit) p p' q r s t = sym (splits here ActivationInput ActivationOutput f.evtout p q s).source ∙ (splits here ActivationInput ActivationOutput f.evtout p' q t).source
through_one at here f (Some Union) p p' q r s t = absurd (irregular ActivationOutput q (unites here f.evtin p q s) r)
through_one at here f (Some (PortBlock c)) p p' q r s t = numbered_one at here c f.ipar p p' q s t
through_one at here f (Some (Giver l)) p p' q r s t = absurd s
through_one at here f (Some (Taker l)) p p' q r s t = absurd s

joins_one : (at : List ℕ) (c d : PortClass) (x y a b : ℤ) (p p' q : Port) → Step (zip (place_port at c x a) (place_port at d y b)) p q → Step (zip (place_port at c x a) (place_port at d y b)) p' q → p ≡ p'
joins_one at c d x y (negsuc i) b p p' q s t = absurd s
joins_one at c d x y (pos i) (negsuc j) p p' q s t = absurd s
joins_one at c d x y (pos i) (pos j) p p' q (inl s) (inl t) = sym s.0 ∙ t.0
joins_one at c d x y (pos i) (pos j) p p' q (inr s) t = absurd s
joins_one at c d x y (pos i) (pos j) p p' q (inl s) (inr t) = absurd t

link_one : (at : List ℕ) (from to : End) (o : Option LinkType) (p p' q : Port) → Step (link_steps at from to o) p q → Step (link_steps at from to o) p' q → p ≡ p'
link_one at from to None p p' q s t = absurd s
link_one at from to (Some l) p p' q s t = joins_one at (source_class l) (target_class l) from.port to.port from.block to.block p p' q s t

-- ---- diagrams

abbrev IsOnce : List ℕ → Type 0
IsOnce ns = (n : ℕ) → times n ns ≤ 1

abbrev AreFedOnce : List End → Type 0
AreFedOnce es = (b p : ℤ) → ends_at b p es ≤ 1

once_rest : (ns ms : List ℕ) → IsOnce (ns ++ ms) → IsOnce ms
once_rest ns ms h n = omega (arith, h n, times-append n ns ms)

fed_rest : (es fs : List End) → AreFedOnce (es ++ fs) → AreFedOnce fs
fed_rest es fs h b p = omega (arith, h b p, ends_at-append b p es fs)

mutual
  unfolding steps_of object_steps

  one_in : (at : List ℕ) (k : ℕ) (all os : Objects) → AreObjectsKept os → AreEndsKept all os → IsOnce (numbers Output os) → AreFedOnce (regular_ends os)
      → (p p' q : Port) → IsRegular q.class → Step (steps_of at k os) p q → Step (steps_of at k os) p' q → p ≡ p'
  one_in at k all no_objects kept ends once fed p p' q r s t = absurd s
  one_in at k all (object o os) kept ends once fed p p' q r s t = elim (step_append (object_steps at (at ++ k ∷ []) o) (steps_of at (k + 1) os) p q s) [
    | inl a ↦ elim (step_append (object_steps at (at ++ k ∷ []) o) (steps_of at (k + 1) os) p' q t) [
      | inl b ↦ one_of at k all o kept.0 ends.0 p p' q r a b
      | inr b ↦ absurd (apart at k (object_number Output o) (numbers Output os) (fed_by o) (regular_ends os) q once fed (object_leads at k o kept.0 p q r a) (leads at (k + 1) os kept.1 p' q r b))
    ]
    | inr a ↦ elim (step_append (object_steps at (at ++ k ∷ []) o) (steps_of at (k + 1) os) p' q t) [
      | inl b ↦ absurd (apart at k (object_number Output o) (numbers Output os) (fed_by o) (regular_ends os) q once fed (object_leads at k o kept.0 p' q r b) (leads at (k + 1) os kept.1 p q r a))
      | inr b ↦ one_in at (k + 1) all os kept.1 ends.1 (once_rest (object_number Output o) (numbers Output os) once) (fed_rest (fed_by o) (regular_ends os) fed) p p' q r a b
    ]
  ]

  one_of : (at : List ℕ) (k : ℕ) (all : Objects) (o : Object) → IsObjectKept o → AreObjectEndsKept all o
      → (p p' q : Port) → IsRegular q.class → Step (object_steps at (at ++ k ∷ []) o) p q → Step (object_steps at (at ++ k ∷ []) o) p' q → p ≡ p'
  one_of at k all (block gui f) kept ends p p' q r s t = through_one at (at ++ k ∷ []) f (pass_through gui) p p' q r s t
  one_of at k all (superblock gui f os) kept ends p p' q r s t =
      one_in (at ++ k ∷ []) 1 os os kept.1 ends.0 (at_most_once (ports f) os kept.0 Output) ends.1 p p' q r s t
  one_of at k all (link from to kind) kept ends p p' q r s t = link_one at from to (link_type kind) p p' q s t
  one_of at k all text kept ends p p' q r s t = absurd s
  one_of at k all deleted kept ends p p' q r s t = absurd s

pub one_drawn_before : (t : Objects) → AreBlocksKept t → AreLinksKept t → (p p' q : Port) → IsRegular q.class → Step (tree_steps t) p q → Step (tree_steps t) p' q → p ≡ p'
one_drawn_before t blocks links p p' q r s s' = one_in [] 1 t t blocks.1 links.0 (at_most_once no_ports t blocks.0 Output) links.1 p p' q r s s'
