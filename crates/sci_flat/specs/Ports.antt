-- The ports of a tree, and the steps between them that are drawn: along a link, through a split, a union or a superblock's port.
use Rattle.std.specs.Prelude.{ℕ, ◌+◌, ℤ, pos, negsuc, List, [], ◌∷◌, ◌++◌, length, map, Option, Some, None}
use Rattle.std.specs.List.{range_with_len, zip}
use Rattle.sci_base.specs.Plain.{Fields}
use Rattle.sci_diagram.specs.declared.diagram.End.{End}
use Rattle.sci_diagram.specs.Objects.{Object, block, superblock, link, text, deleted, Objects, no_objects, object}
use Rattle.sci_blocks.specs.declared.class.PortClass.{PortClass}
use Rattle.sci_blocks.specs.declared.class.PortClass.TheVariants.{Input, Output, ActivationInput, ActivationOutput}
use Rattle.sci_blocks.specs.declared.class.LinkType.{LinkType}
use Rattle.sci_blocks.specs.declared.pass_through.PassThrough.{PassThrough}
use Rattle.sci_blocks.specs.declared.pass_through.PassThrough.TheVariants.{Split, ActivationSplit, Union, PortBlock, Giver, Taker}
use Rattle.sci_blocks.specs.Rows.{pass_through}
use Rattle.sci_blocks.specs.Wiring.{link_type, source_class, target_class}

-- a port, by the place of its object, its class and its number
pub record Port : Type 0 where
  pub place : List ℕ
  pub class : PortClass
  pub number : ℤ

abbrev pub port : List ℕ → PortClass → ℤ → Port
port place class number = record { place = place; class = class; number = number }

abbrev pub PortStep : Type 0
PortStep = Port × Port

-- ---- along a link

-- a port of the object at a position of the diagram at a place; no object has a position below 1
abbrev pub place_port : List ℕ → PortClass → ℤ → ℤ → List Port
place_port at c k (pos n) = port (at ++ n ∷ []) c k ∷ []
place_port at c k (negsuc n) = []

abbrev pub end_port : List ℕ → PortClass → End → List Port
end_port at c e = place_port at c e.port e.block

-- from an output to an input: of regular ports or of activation ports, as the link's type says
abbrev pub link_steps : List ℕ → End → End → Option LinkType → List PortStep
link_steps at from to None = []
link_steps at from to (Some t) = zip (end_port at (source_class t) from) (end_port at (target_class t) to)

-- ---- through an object; a tag leads from one object to another, so none leads through a tag object

-- from a split's input to each of its outputs
abbrev pub split_steps : List ℕ → PortClass → PortClass → ℕ → List PortStep
split_steps here from to outs = map (λ k. (port here from (pos 1), port here to (pos k))) (range_with_len 1 outs)

-- from each of a union's inputs to its output
abbrev pub union_steps : List ℕ → ℕ → List PortStep
union_steps here ins = map (λ k. (port here ActivationInput (pos k), port here ActivationOutput (pos 1))) (range_with_len 1 ins)

-- between a superblock's port and the port block inside that stands for it; `at` is the superblock's place
abbrev pub port_steps : List ℕ → List ℕ → PortClass → ℤ → List PortStep
port_steps at here Input n = (port at Input n, port here Output (pos 1)) ∷ []
port_steps at here Output n = (port here Input (pos 1), port at Output n) ∷ []
port_steps at here ActivationInput n = (port at ActivationInput n, port here ActivationOutput (pos 1)) ∷ []
port_steps at here ActivationOutput n = (port here ActivationInput (pos 1), port at ActivationOutput n) ∷ []

abbrev pub numbered_steps : List ℕ → List ℕ → PortClass → List ℤ → List PortStep
numbered_steps at here c [] = []
numbered_steps at here c (n ∷ []) = port_steps at here c n
numbered_steps at here c (n ∷ m ∷ ns) = []

abbrev pub through_steps : List ℕ → List ℕ → Fields → Option PassThrough → List PortStep
through_steps at here f None = []
through_steps at here f (Some Split) = split_steps here Input Output (length f.outs)
through_steps at here f (Some ActivationSplit) = split_steps here ActivationInput ActivationOutput f.evtout
through_steps at here f (Some Union) = union_steps here f.evtin
through_steps at here f (Some (PortBlock c)) = numbered_steps at here c f.ipar
through_steps at here f (Some (Giver l)) = []
through_steps at here f (Some (Taker l)) = []

-- ---- the steps of the objects of the diagram at a place, the first of them at position k

unfoldable mutual
  pub steps_of : List ℕ → ℕ → Objects → List PortStep
  steps_of at k no_objects = []
  steps_of at k (object o os) = object_steps at (at ++ k ∷ []) o ++ steps_of at (k + 1) os

  pub object_steps : List ℕ → List ℕ → Object → List PortStep
  object_steps at here (block gui f) = through_steps at here f (pass_through gui)
  object_steps at here (superblock gui f os) = steps_of here 1 os
  object_steps at here (link from to kind) = link_steps at from to (link_type kind)
  object_steps at here text = []
  object_steps at here deleted = []

abbrev pub tree_steps : Objects → List PortStep
tree_steps t = steps_of [] 1 t
