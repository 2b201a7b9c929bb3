-- The rules on each block and superblock in tree order, and the blocks with their specs.
use Rattle.std.specs.Prelude.{ℕ, ◌+◌, List, [], ◌∷◌, ◌++◌, Option, Some, None, Ok}
use Rattle.sci_base.specs.Plain.{Fields}
use Rattle.sci_base.specs.Outcome.{Outcome, ◌>>=◌}
use Rattle.sci_diagram.specs.Objects.{Object, block, superblock, link, text, deleted, Objects, no_objects, object}
use Rattle.sci_forms.specs.declared.spec.Spec.{Spec}
use Rattle.sci_check.specs.Check.{checked}
use Rattle.sci_blocks.specs.declared.placed_block.PlacedBlock.{PlacedBlock}
use Rattle.sci_blocks.specs.declared.pass_through.PassThrough.{PassThrough}
use Rattle.sci_blocks.specs.Ports.{ports, no_ports, ports_matched}
use Rattle.sci_blocks.specs.Rows.{pass_through, joint_checked}

-- a block that is neither a superblock nor a pass-through object, with its spec
pub record Placed : Type 0 where
  pub place : List ℕ
  pub spec : Spec

abbrev pub placed : List ℕ → Spec → Placed
placed here s = record { place = here; spec = s }

abbrev pub part_view : PlacedBlock → Placed
part_view p = placed p.place.path.items p.spec

-- a pass-through object gives no block
abbrev pub block_parts : List ℕ → List ℕ → Fields → Option PassThrough → Outcome (List Placed)
block_parts here gui f None = checked here gui f >>= λ s. Ok (placed here s ∷ [])
block_parts here gui f (Some p) = joint_checked here p f >>= λ _. Ok []

-- the objects of the diagram at a place, the first of them at position k; a superblock comes before its inside
unfoldable mutual
  pub parts_in : List ℕ → ℕ → Objects → Outcome (List Placed)
  parts_in at k no_objects = Ok []
  parts_in at k (object o os) = object_parts (at ++ k ∷ []) o >>= λ ps. parts_in at (k + 1) os >>= λ qs. Ok (ps ++ qs)

  pub object_parts : List ℕ → Object → Outcome (List Placed)
  object_parts here (block gui f) = block_parts here gui f (pass_through gui)
  object_parts here (superblock gui f os) = ports_matched here (ports f) os >>= λ _. parts_in here 1 os
  object_parts here (link from to kind) = Ok []
  object_parts here text = Ok []
  object_parts here deleted = Ok []

-- the superblock at a place with these objects inside
abbrev pub superblock_parts : List ℕ → Fields → Objects → Outcome (List Placed)
superblock_parts here f os = ports_matched here (ports f) os >>= λ _. parts_in here 1 os

-- the blocks of a diagram in tree order, or the first rule that an object breaks
unfoldable pub parts_of : Objects → Outcome (List Placed)
parts_of os = ports_matched [] no_ports os >>= λ _. parts_in [] 1 os
