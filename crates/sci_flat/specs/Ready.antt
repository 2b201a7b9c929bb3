-- What a diagram that is read has: its numbers are in range.
use Rattle.std.specs.Prelude.{◌≡◌, ℕ, ◌+◌, ◌<◌, ◌≤◌, ◌^◌, true, length}
use Rattle.std.specs.List.{list_all}
use Rattle.sci_base.specs.declared.limits.TheConstants.{BLOCKS}
use Rattle.sci_base.specs.Plain.{Fields}
use Rattle.sci_diagram.specs.Objects.{Object, block, superblock, link, text, deleted, Objects, no_objects, object}
use Rattle.sci_diagram.specs.Count.{blocks_in}
use Rattle.sci_diagram.specs.Tree.{is_small}
use Rattle.sci_blocks.specs.Sizes.{AreListsShort}

-- the sizes and types of a block's ports are from -2^31 to 2^31-1
pub record AreFieldsSmall (f : Fields) : Type 0 where
  pub ins : list_all is_small f.ins ≡ true
  pub in2 : list_all is_small f.in2 ≡ true
  pub intyp : list_all is_small f.intyp ≡ true
  pub outs : list_all is_small f.outs ≡ true
  pub out2 : list_all is_small f.out2 ≡ true
  pub outtyp : list_all is_small f.outtyp ≡ true

abbrev mutual
  pub AreSmall : Objects → Type 0
  AreSmall no_objects = Unit {0}
  AreSmall (object o os) = IsObjectSmall o × AreSmall os

  pub IsObjectSmall : Object → Type 0
  IsObjectSmall (block gui f) = AreFieldsSmall f
  IsObjectSmall (superblock gui f os) = AreFieldsSmall f × AreSmall os
  IsObjectSmall (link from to kind) = Unit {0}
  IsObjectSmall text = Unit {0}
  IsObjectSmall deleted = Unit {0}

-- how many ports a tree has over all levels, those of superblocks and pass-through objects among them
abbrev pub field_ports : Fields → ℕ
field_ports f = length f.ins + length f.outs + f.evtin + f.evtout

abbrev mutual
  pub ports_in : Objects → ℕ
  ports_in no_objects = 0
  ports_in (object o os) = ports_within o + ports_in os

  pub ports_within : Object → ℕ
  ports_within (block gui f) = field_ports f
  ports_within (superblock gui f os) = field_ports f + ports_in os
  ports_within (link from to kind) = 0
  ports_within text = 0
  ports_within deleted = 0

-- every list of objects has fewer than 2^32, at most 2,048 blocks are neither superblocks nor pass-through objects, there are fewer than 2^32
-- ports, and numbers are in range
pub record IsReady (t : Objects) : Type 0 where
  pub short : AreListsShort t
  pub few : blocks_in t ≤ BLOCKS
  pub few_ports : ports_in t < 2 ^ 32
  pub small : AreSmall t
