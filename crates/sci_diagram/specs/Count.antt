-- How many objects a tree has over all levels, where an object counts with those within it; how many blocks that are neither superblocks nor pass-through nor tag objects; how many links.
use Rattle.std.specs.Prelude.{ℕ, ◌+◌, pos, [], ◌∷◌, nat_le, if◌then◌else◌, Ok, Err}
use Rattle.sci_base.specs.declared.limits.TheConstants.{BLOCKS, LINKS}
use Rattle.sci_base.specs.declared.refusal.Rule.{Rule}
use Rattle.sci_base.specs.declared.refusal.Rule.TheVariants.{TooManyBlocks, TooManyLinks}
use Rattle.sci_base.specs.Plain.{Violation}
use Rattle.sci_base.specs.Outcome.{Outcome}
use Rattle.sci_diagram.specs.declared.sorts.ObjectRole.{ObjectRole}
use Rattle.sci_diagram.specs.declared.sorts.ObjectRole.TheVariants.{Kind, Port, Joint, Tag, Super}
use Rattle.sci_diagram.specs.Objects.{Object, block, superblock, link, text, deleted, Objects, no_objects, object}
use Rattle.sci_diagram.specs.Tree.{role_of}

abbrev pub one_of_kind : ObjectRole → ℕ
one_of_kind Kind = 1
one_of_kind Port = 0
one_of_kind Joint = 0
one_of_kind Tag = 0
one_of_kind Super = 0

abbrev mutual
  pub blocks_in : Objects → ℕ
  blocks_in no_objects = 0
  blocks_in (object o os) = blocks_of o + blocks_in os

  pub blocks_of : Object → ℕ
  blocks_of (block gui f) = one_of_kind (role_of gui)
  blocks_of (superblock gui f os) = blocks_in os
  blocks_of (link from to kind) = 0
  blocks_of text = 0
  blocks_of deleted = 0

abbrev mutual
  pub links_in : Objects → ℕ
  links_in no_objects = 0
  links_in (object o os) = links_of o + links_in os

  pub links_of : Object → ℕ
  links_of (block gui f) = 0
  links_of (superblock gui f os) = links_in os
  links_of (link from to kind) = 1
  links_of text = 0
  links_of deleted = 0

abbrev mutual
  pub objects_in : Objects → ℕ
  objects_in no_objects = 0
  objects_in (object o os) = objects_within o + objects_in os

  pub objects_within : Object → ℕ
  objects_within (block gui f) = 1
  objects_within (superblock gui f os) = 1 + objects_in os
  objects_within (link from to kind) = 1
  objects_within text = 1
  objects_within deleted = 1

abbrev pub too_many : Rule → ℕ → Violation
too_many rule n = record { rule = rule; place = []; detail = pos n ∷ [] }

-- the tree, where it has not too many blocks and then not too many links
unfoldable pub counted : Objects → Outcome Objects
counted os = if nat_le (blocks_in os) BLOCKS then (if nat_le (links_in os) LINKS then Ok os else Err (too_many TooManyLinks (links_in os))) else Err (too_many TooManyBlocks (blocks_in os))
