-- The numbers that a walk gives to ports: those of a diagram's own objects first, one object after another, and then those inside its
-- superblocks. The steps, the blocks and the tag objects by these numbers.
use Rattle.std.specs.Prelude.{ℕ, zero, suc, ℤ, pos, negsuc, List, [], ◌∷◌, ◌++◌, map, Option, Some, None, slice_get}
use Rattle.std.specs.List.{range_with_len}
use Rattle.sci_diagram.specs.declared.diagram.End.{End}
use Rattle.sci_diagram.specs.Objects.{Object, block, superblock, link, text, deleted, Objects, no_objects, object}
use Rattle.sci_blocks.specs.declared.class.PortClass.{PortClass}
use Rattle.sci_blocks.specs.declared.class.PortClass.TheVariants.{Input, Output, ActivationInput, ActivationOutput}
use Rattle.sci_blocks.specs.declared.class.LinkType.{LinkType}
use Rattle.sci_blocks.specs.declared.pass_through.PassThrough.{PassThrough}
use Rattle.sci_blocks.specs.declared.pass_through.PassThrough.TheVariants.{Split, ActivationSplit, Union, PortBlock, Giver, Taker}
use Rattle.sci_blocks.specs.Rows.{pass_through}
use Rattle.sci_blocks.specs.Wiring.{link_type, source_class, target_class}
use Rattle.sci_flat.specs.declared.steps.port_numbers.PortNumbers.{PortNumbers}
use Rattle.sci_flat.specs.PortNumbers.{seat_at, no_seat, past, start, count, port_number}

abbrev pub Steps : Type 0
Steps = List (ℕ × ℕ)

-- ---- seats

abbrev pub object_seat : ℕ → Object → PortNumbers
object_seat n (block gui f) = seat_at n f
object_seat n (superblock gui f os) = seat_at n f
object_seat n (link from to kind) = no_seat n
object_seat n text = no_seat n
object_seat n deleted = no_seat n

abbrev pub seats : ℕ → Objects → List PortNumbers
seats n no_objects = []
seats n (object o os) = object_seat n o ∷ seats (past (object_seat n o)) os

-- past the ports of these objects themselves
abbrev pub own_past : ℕ → Objects → ℕ
own_past n no_objects = n
own_past n (object o os) = own_past (past (object_seat n o)) os

-- past what is inside them
unfoldable mutual
  pub insides_past : ℕ → Objects → ℕ
  insides_past n no_objects = n
  insides_past n (object o os) = insides_past (inside_past n o) os

  pub inside_past : ℕ → Object → ℕ
  inside_past n (block gui f) = n
  inside_past n (superblock gui f os) = insides_past (own_past n os) os
  inside_past n (link from to kind) = n
  inside_past n text = n
  inside_past n deleted = n

-- ---- steps

abbrev pub joined : Option ℕ → Option ℕ → Steps
joined None b = []
joined (Some a) None = []
joined (Some a) (Some b) = (a, b) ∷ []

abbrev pub seat_port : PortClass → ℤ → Option PortNumbers → Option ℕ
seat_port c p None = None
seat_port c p (Some s) = port_number s c p

abbrev pub placed_port : List PortNumbers → PortClass → ℤ → ℤ → Option ℕ
placed_port all c p (pos zero) = None
placed_port all c p (pos (suc n)) = seat_port c p (slice_get all n)
placed_port all c p (negsuc n) = None

abbrev pub end_number : List PortNumbers → PortClass → End → Option ℕ
end_number all c e = placed_port all c e.port e.block

abbrev pub link_numbers : List PortNumbers → End → End → Option LinkType → Steps
link_numbers all from to None = []
link_numbers all from to (Some t) = joined (end_number all (source_class t) from) (end_number all (target_class t) to)

-- from one number to each of some, and from each of some to one
abbrev pub fan_out : Option ℕ → ℕ → ℕ → Steps
fan_out None first n = []
fan_out (Some a) first n = map (λ k. (a, k)) (range_with_len first n)

abbrev pub fan_in : ℕ → ℕ → Option ℕ → Steps
fan_in first n None = []
fan_in first n (Some b) = map (λ k. (k, b)) (range_with_len first n)

abbrev pub port_numbers : PortNumbers → PortNumbers → PortClass → ℤ → Steps
port_numbers outer s Input n = joined (port_number outer Input n) (port_number s Output (pos 1))
port_numbers outer s Output n = joined (port_number s Input (pos 1)) (port_number outer Output n)
port_numbers outer s ActivationInput n = joined (port_number outer ActivationInput n) (port_number s ActivationOutput (pos 1))
port_numbers outer s ActivationOutput n = joined (port_number s ActivationInput (pos 1)) (port_number outer ActivationOutput n)

abbrev pub block_numbers : PortNumbers → PortNumbers → PortClass → List ℤ → Steps
block_numbers outer s c [] = []
block_numbers outer s c (n ∷ []) = port_numbers outer s c n
block_numbers outer s c (n ∷ m ∷ ns) = []

abbrev pub through_numbers : PortNumbers → PortNumbers → List ℤ → Option PassThrough → Steps
through_numbers outer s ipar None = []
through_numbers outer s ipar (Some Split) = fan_out (port_number s Input (pos 1)) (start s Output) (count s Output)
through_numbers outer s ipar (Some ActivationSplit) = fan_out (port_number s ActivationInput (pos 1)) (start s ActivationOutput) (count s ActivationOutput)
through_numbers outer s ipar (Some Union) = fan_in (start s ActivationInput) (count s ActivationInput) (port_number s ActivationOutput (pos 1))
through_numbers outer s ipar (Some (PortBlock c)) = block_numbers outer s c ipar
through_numbers outer s ipar (Some (Giver l)) = []
through_numbers outer s ipar (Some (Taker l)) = []

-- the steps of objects with these seats; `all` are the seats of the whole diagram, `outer` that of the superblock around it, and `n` is the
-- first number inside the objects
unfoldable mutual
  pub steps_by : List PortNumbers → PortNumbers → List PortNumbers → ℕ → Objects → Steps
  steps_by all outer ss n no_objects = []
  steps_by all outer [] n (object o os) = []
  steps_by all outer (s ∷ ss) n (object o os) = object_steps_by all outer s n o ++ steps_by all outer ss (inside_past n o) os

  pub object_steps_by : List PortNumbers → PortNumbers → PortNumbers → ℕ → Object → Steps
  object_steps_by all outer s n (block gui f) = through_numbers outer s f.ipar (pass_through gui)
  object_steps_by all outer s n (superblock gui f os) = steps_by (seats n os) s (seats n os) (own_past n os) os
  object_steps_by all outer s n (link from to kind) = link_numbers all from to (link_type kind)
  object_steps_by all outer s n text = []
  object_steps_by all outer s n deleted = []

-- ---- the seats of the blocks that are neither superblocks nor pass-through objects, in tree order

abbrev pub unless_passed : PortNumbers → Option PassThrough → List PortNumbers
unless_passed s None = s ∷ []
unless_passed s (Some p) = []

unfoldable mutual
  pub blocks_by : List PortNumbers → ℕ → Objects → List PortNumbers
  blocks_by ss n no_objects = []
  blocks_by [] n (object o os) = []
  blocks_by (s ∷ ss) n (object o os) = object_blocks_by s n o ++ blocks_by ss (inside_past n o) os

  pub object_blocks_by : PortNumbers → ℕ → Object → List PortNumbers
  object_blocks_by s n (block gui f) = unless_passed s (pass_through gui)
  object_blocks_by s n (superblock gui f os) = blocks_by (seats n os) (own_past n os) os
  object_blocks_by s n (link from to kind) = []
  object_blocks_by s n text = []
  object_blocks_by s n deleted = []

-- ---- the number of the first port of each tag object, in tree order; in one that keeps the rules on tags it is the only port

abbrev pub tag_numbers : PortNumbers → Option PassThrough → List ℕ
tag_numbers s None = []
tag_numbers s (Some Split) = []
tag_numbers s (Some ActivationSplit) = []
tag_numbers s (Some Union) = []
tag_numbers s (Some (PortBlock c)) = []
tag_numbers s (Some (Giver l)) = s.first ∷ []
tag_numbers s (Some (Taker l)) = s.first ∷ []

unfoldable mutual
  pub tags_by : List PortNumbers → ℕ → Objects → List ℕ
  tags_by ss n no_objects = []
  tags_by [] n (object o os) = []
  tags_by (s ∷ ss) n (object o os) = object_tags_by s n o ++ tags_by ss (inside_past n o) os

  pub object_tags_by : PortNumbers → ℕ → Object → List ℕ
  object_tags_by s n (block gui f) = tag_numbers s (pass_through gui)
  object_tags_by s n (superblock gui f os) = tags_by (seats n os) (own_past n os) os
  object_tags_by s n (link from to kind) = []
  object_tags_by s n text = []
  object_tags_by s n deleted = []
