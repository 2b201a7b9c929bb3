-- The ports of objects by class, and what a superblock's ports ask of the port blocks inside.
use Rattle.std.specs.Prelude.{ℕ, ◌+◌, ℤ, pos, List, [], ◌∷◌, ◌++◌, length, Bool, nat_eq, nat_lt, nat_le, min, filter, codes, if◌then◌else◌, Option, Some, None, Ok, Err}
use Rattle.std.specs.Str.{bytes_eq}
use Rattle.sci_base.specs.declared.refusal.Rule.TheVariants.{SuperPorts}
use Rattle.sci_base.specs.Plain.{Violation, Fields}
use Rattle.sci_base.specs.Outcome.{Outcome, ◌>>=◌}
use Rattle.sci_diagram.specs.Objects.{Object, block, superblock, link, text, deleted, Objects, no_objects, object}
use Rattle.sci_forms.specs.Forms.{first_not, given, or_else}
use Rattle.sci_blocks.specs.declared.class.PortClass.{PortClass}
use Rattle.sci_blocks.specs.declared.class.PortClass.TheVariants.{Input, Output, ActivationInput, ActivationOutput}

-- ---- classes of ports

-- how many ports of a class a block has
abbrev pub ports : Fields → PortClass → ℕ
ports f Input = length f.ins
ports f Output = length f.outs
ports f ActivationInput = f.evtin
ports f ActivationOutput = f.evtout

-- the outermost diagram counts as a superblock without ports
abbrev pub no_ports : PortClass → ℕ
no_ports c = 0

-- the name of the port blocks that stand for a superblock's ports of a class
abbrev pub name_of : PortClass → List ℕ
name_of Input = codes "IN_f"
name_of Output = codes "OUT_f"
name_of ActivationInput = codes "CLKINV_f"
name_of ActivationOutput = codes "CLKOUTV_f"

-- the number of a class in a refusal
abbrev pub class_number : PortClass → ℕ
class_number Input = 1
class_number Output = 2
class_number ActivationInput = 3
class_number ActivationOutput = 4

-- ---- port blocks

-- the number of a port block: its one parameter, where that is at least 1
abbrev pub number : List ℤ → List ℕ
number (pos n ∷ []) = if nat_le 1 n then n ∷ [] else []
number _ = []

abbrev pub named_number : PortClass → List ℕ → List ℤ → List ℕ
named_number c gui ps = if bytes_eq gui (name_of c) then number ps else []

abbrev pub object_number : PortClass → Object → List ℕ
object_number c (block gui f) = named_number c gui f.ipar
object_number c (superblock gui f os) = []
object_number c (link from to kind) = []
object_number c text = []
object_number c deleted = []

-- the numbers of the port blocks of a class directly inside, in their order
abbrev pub numbers : PortClass → Objects → List ℕ
numbers c no_objects = []
numbers c (object o os) = object_number c o ++ numbers c os

-- ---- the rule on a superblock's ports

-- how often a number occurs
abbrev pub times : ℕ → List ℕ → ℕ
times n [] = 0
times n (m ∷ ms) = (if nat_eq m n then 1 else 0) + times n ms

abbrev pub least_of : ℕ → Option ℕ → ℕ
least_of n None = n
least_of n (Some m) = min n m

-- the least of some numbers
abbrev pub least : List ℕ → Option ℕ
least [] = None
least (n ∷ ns) = Some (least_of n (least ns))

-- whether port k + 1 occurs exactly once
abbrev pub is_once : List ℕ → ℕ → Bool
is_once ns k = nat_eq (times (k + 1) ns) 1

-- the first number from 1 to the count of ports that doesn't occur exactly once, else the least greater number that occurs
abbrev pub first_broken : ℕ → List ℕ → Option ℕ
first_broken count ns = or_else (given (first_not (is_once ns) count) (λ k. k + 1)) (least (filter (λ n. nat_lt count n) ns))

abbrev pub unmatched : List ℕ → PortClass → ℕ → Violation
unmatched at c n = record { rule = SuperPorts; place = at; detail = pos (class_number c) ∷ pos n ∷ [] }

abbrev pub unless_broken : List ℕ → PortClass → Option ℕ → Outcome (Unit {0})
unless_broken at c None = Ok tt
unless_broken at c (Some n) = Err (unmatched at c n)

-- the ports of one class of the superblock at a place, with these objects inside
abbrev pub class_matched : List ℕ → (PortClass → ℕ) → Objects → PortClass → Outcome (Unit {0})
class_matched at count os c = unless_broken at c (first_broken (count c) (numbers c os))

-- the port blocks inside match the superblock's ports
unfoldable pub ports_matched : List ℕ → (PortClass → ℕ) → Objects → Outcome (Unit {0})
ports_matched at count os = do
  ins ← class_matched at count os Input
  outs ← class_matched at count os Output
  evtin ← class_matched at count os ActivationInput
  class_matched at count os ActivationOutput
