-- Diagrams each of whose lists has fewer than 2^32 objects.
use Rattle.std.specs.Prelude.{◌<◌, ◌^◌, length}
use Rattle.sci_diagram.specs.Objects.{Object, block, superblock, link, text, deleted, Objects, no_objects, object, listed}

abbrev pub IsShort : Objects → Type 0
IsShort os = length (listed os) < 2 ^ 32

abbrev mutual
  pub AreInsidesShort : Objects → Type 0
  AreInsidesShort no_objects = Unit {0}
  AreInsidesShort (object o os) = IsInsideShort o × AreInsidesShort os

  pub IsInsideShort : Object → Type 0
  IsInsideShort (block gui f) = Unit {0}
  IsInsideShort (superblock gui f os) = IsShort os × AreInsidesShort os
  IsInsideShort (link from to kind) = Unit {0}
  IsInsideShort text = Unit {0}
  IsInsideShort deleted = Unit {0}

-- at every level
abbrev pub AreListsShort : Objects → Type 0
AreListsShort os = IsShort os × AreInsidesShort os
