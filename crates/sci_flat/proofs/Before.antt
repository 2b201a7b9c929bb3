-- A step to a regular port is from a regular port.
use Rattle.std.proofs.Common.{◌≡◌, ℕ, ◌+◌, ℤ, List, [], ◌∷◌, ◌++◌, length, inl, inr, Option, Some, None, sym, ap, subst}
use Rattle.sci_base.specs.Plain.{Fields}
use Rattle.sci_diagram.specs.declared.diagram.End.{End}
use Rattle.sci_diagram.specs.Objects.{Object, block, superblock, link, text, deleted, Objects, no_objects, object}
use Rattle.sci_blocks.specs.declared.class.PortClass.{PortClass}
use Rattle.sci_blocks.specs.declared.class.PortClass.TheVariants.{Input, Output, ActivationInput, ActivationOutput}
use Rattle.sci_blocks.specs.declared.class.LinkType.{LinkType}
use Rattle.sci_blocks.specs.declared.class.LinkType.TheVariants.{Regular, Activation}
use Rattle.sci_blocks.specs.declared.pass_through.PassThrough.{PassThrough}
use Rattle.sci_blocks.specs.declared.pass_through.PassThrough.TheVariants.{Split, ActivationSplit, Union, PortBlock, Giver, Taker}
use Rattle.sci_blocks.specs.Rows.{pass_through}
use Rattle.sci_blocks.specs.Wiring.{link_type}
use Rattle.sci_flat.specs.Chain.{Step}
use Rattle.sci_flat.specs.Ports.{Port, port, link_steps, numbered_steps, through_steps, steps_of, object_steps, tree_steps}
use Rattle.sci_flat.specs.Laws.{IsRegular}
use Rattle.sci_flat.proofs.Lists.{step_append}
use Rattle.sci_flat.proofs.Leads.{irregular, splits, unites, joins}

-- from a port of a regular class
from_regular : (a p : Port) → a ≡ p → IsRegular a.class → IsRegular p.class
from_regular a p e r = subst (λ (x : Port). IsRegular x.class) e r

to_irregular : (b q : Port) → b ≡ q → IsRegular q.class → IsRegular b.class
to_irregular b q e r = subst (λ (c : PortClass). IsRegular c) (ap (λ (x : Port). x.class) (sym e)) r

numbered_regular : (at here : List ℕ) (c : PortClass) (ps : List ℤ) (p q : Port) → IsRegular q.class → Step (numbered_steps at here c ps) p q → IsRegular p.class
numbered_regular at here c [] p q r s = absurd s
numbered_regular at here c (n ∷ m ∷ ns) p q r s = absurd s
numbered_regular at here Input (n ∷ []) p q r (inl s) = from_regular (port at Input n) p s.0 tt
numbered_regular at here Input (n ∷ []) p q r (inr s) = absurd s
numbered_regular at here Output (n ∷ []) p q r (inl s) = from_regular _ p s.0 tt
numbered_regular at here Output (n ∷ []) p q r (inr s) = absurd s
numbered_regular at here ActivationInput (n ∷ []) p q r (inl s) = absurd (to_irregular _ q s.1 r)
numbered_regular at here ActivationInput (n ∷ []) p q r (inr s) = absurd s
numbered_regular at here ActivationOutput (n ∷ []) p q r (inl s) = absurd (to_irregular _ q s.1 r)
numbered_regular at here ActivationOutput (n ∷ []) p q r (inr s) = absurd s

through_regular : (at here : List ℕ) (f : Fields) (o : Option PassThrough) (p q : Port) → IsRegular q.class → Step (through_steps at here f o) p q → IsRegular p.class
through_regular at here f None p q r s = absurd s
through_regular at here f (Some Split) p q r s = from_regular _ p (splits here Input Output (length f.outs) p q s).source tt
through_regular at here f (Some ActivationSplit) p q r s = absurd (irregular ActivationOutput q (splits here ActivationInput ActivationOutput f.evtout p q s).class r)
through_regular at here f (Some Union) p q r s = absurd (irregular ActivationOutput q (unites here f.evtin p q s) r)
through_regular at here f (Some (PortBlock c)) p q r s = numbered_regular at here c f.ipar p q r s
through_regular at here f (Some (Giver l)) p q r s = absurd s
through_regular at here f (Some (Taker l)) p q r s = absurd s

link_regular : (at : List ℕ) (from to : End) (o : Option LinkType) (p q : Port) → IsRegular q.class → Step (link_steps at from to o) p q → IsRegular p.class
link_regular at from to None p q r s = absurd s
link_regular at from to (Some Regular) p q r s = from_regular _ p (joins at Output Input from.port to.port from.block to.block p q s).source tt
link_regular at from to (Some Activation) p q r s = absurd (to_irregular _ q (joins at ActivationOutput ActivationInput from.port to.port from.block to.block p q s).target r)

mutual
  unfolding steps_of object_steps

  regular_in : (at : List ℕ) (k : ℕ) (os : Objects) (p q : Port) → IsRegular q.class → Step (steps_of at k os) p q → IsRegular p.class
  regular_in at k no_objects p q r s = absurd s
  regular_in at k (object o os) p q r s = elim (step_append (object_steps at (at ++ k ∷ []) o) (steps_of at (k + 1) os) p q s) [
    | inl a ↦ regular_of at (at ++ k ∷ []) o p q r a
    | inr b ↦ regular_in at (k + 1) os p q r b
  ]

  regular_of : (at here : List ℕ) (o : Object) (p q : Port) → IsRegular q.class → Step (object_steps at here o) p q → IsRegular p.class
  regular_of at here (block gui f) p q r s = through_regular at here f (pass_through gui) p q r s
  regular_of at here (superblock gui f os) p q r s = regular_in here 1 os p q r s
  regular_of at here (link from to kind) p q r s = link_regular at from to (link_type kind) p q r s
  regular_of at here text p q r s = absurd s
  regular_of at here deleted p q r s = absurd s

pub regular_drawn_before : (t : Objects) (p q : Port) → IsRegular q.class → Step (tree_steps t) p q → IsRegular p.class
regular_drawn_before t p q r s = regular_in [] 1 t p q r s
