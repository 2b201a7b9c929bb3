-- The rules on each link, in tree order.
use Rattle.std.specs.Prelude.{ℕ, zero, suc, ◌+◌, ℤ, pos, negsuc, List, [], ◌∷◌, ◌++◌, Bool, ◌&&◌, int_le, if◌then◌else◌, Option, Some, None, slice_get, Ok, Err}
use Rattle.std.specs.List.{list_any}
use Rattle.sci_base.specs.declared.refusal.Rule.TheVariants.{LinkEnd, InputTwice}
use Rattle.sci_base.specs.Fit.{int_eq}
use Rattle.sci_base.specs.Plain.{Violation}
use Rattle.sci_base.specs.Outcome.{Outcome, ◌>>=◌}
use Rattle.sci_diagram.specs.declared.diagram.End.{End}
use Rattle.sci_diagram.specs.Objects.{Object, block, superblock, link, text, deleted, Objects, no_objects, object, listed}
use Rattle.sci_blocks.specs.declared.class.PortClass.{PortClass}
use Rattle.sci_blocks.specs.declared.class.PortClass.TheVariants.{Input, Output, ActivationInput, ActivationOutput}
use Rattle.sci_blocks.specs.declared.class.LinkType.{LinkType}
use Rattle.sci_blocks.specs.declared.class.LinkType.TheVariants.{Regular, Activation}
use Rattle.sci_blocks.specs.Ports.{ports}

-- ---- ends

-- how many ports of a class an object has
abbrev pub object_ports : PortClass → Object → ℕ
object_ports c (block gui f) = ports f c
object_ports c (superblock gui f os) = ports f c
object_ports c (link from to kind) = 0
object_ports c text = 0
object_ports c deleted = 0

abbrev pub ports_of : PortClass → Option Object → ℕ
ports_of c None = 0
ports_of c (Some o) = object_ports c o

-- the object at a position, from 1
abbrev pub at_position : Objects → ℤ → Option Object
at_position os (pos zero) = None
at_position os (pos (suc n)) = slice_get (listed os) n
at_position os (negsuc n) = None

-- outputs are side 0 and inputs side 1
abbrev pub side_number : PortClass → ℤ
side_number Input = pos 1
side_number Output = pos 0
side_number ActivationInput = pos 1
side_number ActivationOutput = pos 0

-- whether an end is a port of this class of a block or superblock among these objects
abbrev pub is_port_of : Objects → PortClass → End → Bool
is_port_of os c e = int_eq e.side (side_number c) && int_le (pos 1) e.port && int_le e.port (pos (ports_of c (at_position os e.block)))

-- ---- links

-- a regular link has type 1, an activation link type -1
abbrev pub link_type : ℤ → Option LinkType
link_type z = if int_eq z (pos 1) then Some Regular else if int_eq z (negsuc 0) then Some Activation else None

-- what a link leads from, and what to
abbrev pub source_class : LinkType → PortClass
source_class Regular = Output
source_class Activation = ActivationOutput

abbrev pub target_class : LinkType → PortClass
target_class Regular = Input
target_class Activation = ActivationInput

abbrev pub end_broken : List ℕ → List ℤ → Violation
end_broken here detail = record { rule = LinkEnd; place = here; detail = detail }

abbrev pub typed_as : List ℕ → ℤ → Option LinkType → Outcome LinkType
typed_as here kind None = Err (end_broken here (pos 0 ∷ kind ∷ []))
typed_as here kind (Some t) = Ok t

abbrev pub end_judged : List ℕ → Objects → PortClass → End → ℤ → Outcome (Unit {0})
end_judged here all c e code = if is_port_of all c e then Ok tt else Err (end_broken here (code ∷ []))

-- whether an end is at this port of this block
abbrev pub is_at : ℤ → ℤ → End → Bool
is_at b p e = int_eq b e.block && int_eq p e.port

abbrev pub fed_twice : List ℕ → End → Violation
fed_twice here to = record { rule = InputTwice; place = here; detail = to.block ∷ to.port ∷ [] }

-- a regular input takes one link; `fed` are those where earlier links end
abbrev pub once_fed : List ℕ → List End → LinkType → End → Outcome (Unit {0})
once_fed here fed Activation to = Ok tt
once_fed here fed Regular to = if list_any (is_at to.block to.port) fed then Err (fed_twice here to) else Ok tt

-- a link's type, then where it comes from, then where it ends
unfoldable pub ends_judged : List ℕ → Objects → End → End → ℤ → Outcome LinkType
ends_judged here all from to kind = do
  t ← typed_as here kind (link_type kind)
  source ← end_judged here all (source_class t) from (pos 1)
  target ← end_judged here all (target_class t) to (pos 2)
  Ok t

-- a link of the diagram with all these objects
abbrev pub link_judged : List ℕ → Objects → List End → End → End → ℤ → Outcome (Unit {0})
link_judged here all fed from to kind = ends_judged here all from to kind >>= λ t. once_fed here fed t to

-- where an object ends, if it is a regular link
abbrev pub regular_end : End → Option LinkType → List End
regular_end to None = []
regular_end to (Some Regular) = to ∷ []
regular_end to (Some Activation) = []

abbrev pub fed_by : Object → List End
fed_by (block gui f) = []
fed_by (superblock gui f os) = []
fed_by (link from to kind) = regular_end to (link_type kind)
fed_by text = []
fed_by deleted = []

-- the links among the objects of the diagram at a place, the first of them at position k; `all` are the diagram's objects
unfoldable mutual
  pub links_in : List ℕ → Objects → List End → ℕ → Objects → Outcome (Unit {0})
  links_in at all fed k no_objects = Ok tt
  links_in at all fed k (object o os) = object_links (at ++ k ∷ []) all fed o >>= λ _. links_in at all (fed ++ fed_by o) (k + 1) os

  pub object_links : List ℕ → Objects → List End → Object → Outcome (Unit {0})
  object_links here all fed (block gui f) = Ok tt
  object_links here all fed (superblock gui f os) = links_in here os [] 1 os
  object_links here all fed (link from to kind) = link_judged here all fed from to kind
  object_links here all fed text = Ok tt
  object_links here all fed deleted = Ok tt

-- whether every link of a diagram keeps the rules, or the first rule that a link breaks
unfoldable pub links_of : Objects → Outcome (Unit {0})
links_of os = links_in [] os [] 1 os
