-- What the numbers of a diagram's ports have.
use Rattle.std.specs.Prelude.{◌≡◌, ℕ, ◌+◌, ◌<◌, pos, ℤ, List, [], map, length, slice_index, slice_index_or}
use Rattle.std.specs.List.{AllZip}
use Rattle.sci_diagram.specs.Objects.{Objects}
use Rattle.sci_forms.specs.declared.spec.Spec.{Spec}
use Rattle.sci_blocks.specs.declared.class.PortClass.{PortClass}
use Rattle.sci_blocks.specs.declared.class.PortClass.TheVariants.{Input, Output, ActivationInput, ActivationOutput}
use Rattle.sci_blocks.specs.Blocks.{Placed}
use Rattle.sci_blocks.specs.Wiring.{source_class, target_class}
use Rattle.sci_goto.specs.declared.serving.Serving.{Serving}
use Rattle.sci_goto.specs.declared.tag.TagForm.{TagForm}
use Rattle.sci_goto.specs.declared.tag.TagForm.TheVariants.{WrongPorts, WrongParameters, Gives, Takes}
use Rattle.sci_goto.specs.Phase.{Standing, standing}
use Rattle.sci_flat.specs.Chain.{AllWithin}
use Rattle.sci_flat.specs.declared.steps.port_numbers.PortNumbers.{PortNumbers}
use Rattle.sci_flat.specs.declared.steps.numbered.Numbered.{Numbered}
use Rattle.sci_flat.specs.PortNumbers.{start, count}
use Rattle.sci_flat.specs.Ports.{Port, port, PortStep}

-- the port of a number, where the ports are listed by their numbers
abbrev pub named : List Port → Port → ℕ → Port
named names d n = slice_index_or names n d

abbrev pub no_port : Port
no_port = port [] Input (pos 0)

abbrev pub named_step : List Port → ℕ × ℕ → PortStep
named_step names e = (named names no_port e.0, named names no_port e.1)

-- how many ports of a class a block has
abbrev pub spec_ports : Spec → PortClass → ℕ
spec_ports s Input = length s.ins
spec_ports s Output = length s.outs
spec_ports s ActivationInput = s.evtin
spec_ports s ActivationOutput = s.evtout

-- the seat of this block: its ports, and no others of its place, have these numbers
pub record IsSeat (names : List Port) (p : Placed) (s : PortNumbers) : Type 0 where
  pub counts : (c : PortClass) → count s c ≡ spec_ports p.spec c
  pub inside : (c : PortClass) (k : ℕ) → k < count s c → start s c + k < length names
  pub named : (c : PortClass) (k : ℕ) → k < count s c → slice_index_or names (start s c + k) no_port ≡ port p.place c (pos (k + 1))
  pub only : (c : PortClass) (z : ℤ) (n : ℕ) → n < length names → slice_index_or names n no_port ≡ port p.place c z → (k : ℕ) × (k < count s c) × (z ≡ pos (k + 1)) × (n ≡ start s c + k)

-- the number is that of the port
pub record IsNumberOf (names : List Port) (n : ℕ) (p : Port) : Type 0 where
  pub inside : n < length names
  pub named : slice_index_or names n no_port ≡ p

-- the number is that of a tag object's port, where the object says what it gives or takes: the input of what gives a tag, the output of
-- what takes one
abbrev pub IsTagNumber : List Port → List ℕ → TagForm → ℕ → Type 0
IsTagNumber names place WrongPorts n = Unit {0}
IsTagNumber names place WrongParameters n = Unit {0}
IsTagNumber names place (Gives t scope) n = IsNumberOf names n (port place (target_class t.link) (pos 1))
IsTagNumber names place (Takes t) n = IsNumberOf names n (port place (source_class t.link) (pos 1))

abbrev pub IsStandingNumber : List Port → Standing → ℕ → Type 0
IsStandingNumber names s n = IsTagNumber names s.place s.form n

-- the step from what gives a tag to what takes it, where these are the numbers of the tag objects' ports
abbrev pub serving_step : List ℕ → Serving → ℕ × ℕ
serving_step tags s = (slice_index tags s.giver, slice_index tags s.taker)

-- the ports of the tree, by their numbers, no two alike; the steps by these numbers are these steps; the seats are those of its blocks;
-- the tag objects in tree order, by the numbers of their ports
pub record IsNumbered (t : Objects) (ps : List Placed) (es : List PortStep) (n : Numbered) : Type 0 where
  pub names : List Port
  pub long : length names ≡ n.ports
  pub distinct : (i j : ℕ) → i < n.ports → j < n.ports → slice_index_or names i no_port ≡ slice_index_or names j no_port → i ≡ j
  pub within : AllWithin n.ports n.steps.items
  pub steps : map (named_step names) n.steps.items ≡ es
  pub one_seat_each : length n.blocks.items ≡ length ps
  pub seats : (b : ℕ) (p : Placed) (s : PortNumbers) → b < length ps → p ≡ slice_index_or ps b p → s ≡ slice_index_or n.blocks.items b s → IsSeat names p s
  pub tags : AllZip (IsStandingNumber names) (standing t) n.tags.items
