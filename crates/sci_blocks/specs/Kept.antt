-- What a diagram has whose objects and links break no rule.
use Rattle.std.specs.Prelude.{◌≡◌, ℕ, ◌+◌, ◌<◌, ◌≤◌, ℤ, List, [], ◌∷◌, ◌++◌, true, if◌then◌else◌, Option, Some, None}
use Rattle.sci_base.specs.Plain.{Fields}
use Rattle.sci_diagram.specs.declared.diagram.End.{End}
use Rattle.sci_diagram.specs.Objects.{Object, block, superblock, link, text, deleted, Objects, no_objects, object}
use Rattle.sci_forms.specs.declared.Kind.{Kind}
use Rattle.sci_names.specs.Names.{by_name}
use Rattle.sci_check.specs.Check.{broken}
use Rattle.sci_blocks.specs.declared.class.PortClass.{PortClass}
use Rattle.sci_blocks.specs.declared.class.LinkType.{LinkType}
use Rattle.sci_blocks.specs.declared.pass_through.PassThrough.{PassThrough}
use Rattle.sci_blocks.specs.Ports.{ports, no_ports, numbers, times}
use Rattle.sci_blocks.specs.Rows.{pass_through, row, row_broken, parameters_broken}
use Rattle.sci_blocks.specs.Wiring.{is_port_of, link_type, source_class, target_class, is_at, fed_by}

-- ---- objects

-- each port of a class has one port block inside with its number, and no port block has another number
pub record ArePortsMatched (count : PortClass → ℕ) (os : Objects) : Type 0 where
  pub once : (c : PortClass) (n : ℕ) → 1 ≤ n → n ≤ count c → times n (numbers c os) ≡ 1
  pub no_other : (c : PortClass) (n : ℕ) → count c < n → times n (numbers c os) ≡ 0

-- a block is of a kind and keeps its form; a pass-through object keeps its row
abbrev pub IsBlockKept : List ℕ → Fields → Option PassThrough → Type 0
IsBlockKept gui f None = (k : Kind) × (by_name gui ≡ Some k) × (broken k f ≡ None)
IsBlockKept gui f (Some p) = (row_broken (row p) f ≡ None) × (parameters_broken p f.ipar ≡ None)

-- at every level
abbrev mutual
  pub AreObjectsKept : Objects → Type 0
  AreObjectsKept no_objects = Unit {0}
  AreObjectsKept (object o os) = IsObjectKept o × AreObjectsKept os

  pub IsObjectKept : Object → Type 0
  IsObjectKept (block gui f) = IsBlockKept gui f (pass_through gui)
  IsObjectKept (superblock gui f os) = ArePortsMatched (ports f) os × AreObjectsKept os
  IsObjectKept (link from to kind) = Unit {0}
  IsObjectKept text = Unit {0}
  IsObjectKept deleted = Unit {0}

-- the diagram is as a superblock without ports
abbrev pub AreBlocksKept : Objects → Type 0
AreBlocksKept os = ArePortsMatched no_ports os × AreObjectsKept os

-- ---- links

-- a link has a type, and its ends are ports of the classes that the type joins
pub record IsLinkKept (all : Objects) (from to : End) (kind : ℤ) : Type 0 where
  pub link : LinkType
  pub typed : link_type kind ≡ Some link
  pub source : is_port_of all (source_class link) from ≡ true
  pub target : is_port_of all (target_class link) to ≡ true

-- the ends of the regular links among these objects, in their order
abbrev pub regular_ends : Objects → List End
regular_ends no_objects = []
regular_ends (object o os) = fed_by o ++ regular_ends os

-- how many ends are at port p of block b
abbrev pub ends_at : ℤ → ℤ → List End → ℕ
ends_at b p [] = 0
ends_at b p (e ∷ es) = (if is_at b p e then 1 else 0) + ends_at b p es

-- no two regular links end at one port
abbrev pub IsFedOnce : Objects → Type 0
IsFedOnce os = (b p : ℤ) → ends_at b p (regular_ends os) ≤ 1

-- at every level; `all` are the objects of the same diagram
abbrev mutual
  pub AreEndsKept : Objects → Objects → Type 0
  AreEndsKept all no_objects = Unit {0}
  AreEndsKept all (object o os) = AreObjectEndsKept all o × AreEndsKept all os

  pub AreObjectEndsKept : Objects → Object → Type 0
  AreObjectEndsKept all (block gui f) = Unit {0}
  AreObjectEndsKept all (superblock gui f os) = AreEndsKept os os × IsFedOnce os
  AreObjectEndsKept all (link from to kind) = IsLinkKept all from to kind
  AreObjectEndsKept all text = Unit {0}
  AreObjectEndsKept all deleted = Unit {0}

abbrev pub AreLinksKept : Objects → Type 0
AreLinksKept os = AreEndsKept os os × IsFedOnce os
