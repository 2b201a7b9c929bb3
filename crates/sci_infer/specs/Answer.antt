-- The answer to a flat net: the typed net, or the first rule that it breaks.
use Rattle.std.specs.Prelude.{◌≡◌, ℕ, ℤ, pos, List, [], ◌∷◌, ◌++◌, Option, Some, None, Result, Ok, Err, slice_index_or}
use Rattle.sci_base.specs.Plain.{Violation}
use Rattle.sci_base.specs.declared.refusal.Rule.{Rule}
use Rattle.sci_base.specs.declared.refusal.Rule.TheVariants.{TypeConflict, SizeConflict, TypeOpen, SizeOpen}
use Rattle.sci_infer.specs.declared.values.Extremes.{Extremes}
use Rattle.sci_infer.specs.declared.values.Resolution.{Resolution}
use Rattle.sci_infer.specs.declared.values.Resolution.TheVariants.{Conflict, Open, Values}
use Rattle.sci_net.specs.Parts.{Parts, path_of}
use Rattle.sci_infer.specs.declared.parts.PortPart.{PortPart}
use Rattle.sci_infer.specs.declared.parts.Side.{Side}
use Rattle.sci_infer.specs.declared.parts.Side.TheVariants.{Input, Output}
use Rattle.sci_infer.specs.declared.parts.What.{What}
use Rattle.sci_infer.specs.declared.parts.What.TheVariants.{DataType, Rows, Columns}
use Rattle.sci_base.specs.declared.stop.Stop.{Stop}
use Rattle.sci_base.specs.Stops.{StopsBy}
use Rattle.sci_infer.specs.Typing.{Decides}
use Rattle.sci_infer.specs.PortParts.{parts_in, AreTied}
use Rattle.sci_infer.specs.Typed.{typed_parts}
use Rattle.sci_infer.specs.Broken.{Blamed, net_broken, violation}

abbrev pub side_number : Side → ℤ
side_number Input = pos 1
side_number Output = pos 2

-- rows are part 1 and columns part 2; of a type there is no number
abbrev pub part_number : What → List ℤ
part_number DataType = []
part_number Rows = pos 1 ∷ []
part_number Columns = pos 2 ∷ []

-- side, port and part
abbrev pub part_detail : PortPart → List ℤ
part_detail p = side_number p.side ∷ pos p.port ∷ part_number p.what

abbrev pub conflict_rule : What → Rule
conflict_rule DataType = TypeConflict
conflict_rule Rows = SizeConflict
conflict_rule Columns = SizeConflict

abbrev pub open_rule : What → Rule
open_rule DataType = TypeOpen
open_rule Rows = SizeOpen
open_rule Columns = SizeOpen

abbrev pub no_part : PortPart
no_part = record { block = 0; side = Input; port = 0; what = DataType; declared = pos 0 }

-- the part at a place
abbrev pub part_of : Parts → ℕ → PortPart
part_of n i = slice_index_or (parts_in n) i no_part

abbrev pub conflict_of : Parts → PortPart → Extremes → Violation
conflict_of n p s = record { rule = conflict_rule p.what; place = path_of n p.block; detail = part_detail p ++ s.least ∷ s.greatest ∷ [] }

abbrev pub open_of : Parts → PortPart → Violation
open_of n p = record { rule = open_rule p.what; place = path_of n p.block; detail = part_detail p }

abbrev pub judged : Parts → Option Blamed → Result Parts Violation
judged n None = Ok n
judged n (Some x) = Err (violation n x.0 x.1)

-- the typed net, or the first rule that it breaks
abbrev pub judged_typing : Parts → List ℤ → Result Parts Violation
judged_typing n vs = judged (typed_parts vs n) (net_broken (typed_parts vs n).specs)

-- what the verdict on the typings of a flat net gives
abbrev pub answered : Parts → Resolution → Result Parts Violation
answered n (Conflict at span) = Err (conflict_of n (part_of n at) span)
answered n (Open at) = Err (open_of n (part_of n at))
answered n (Values vs) = judged_typing n vs.items

-- the right answer to a flat net
pub record IsAnswer (n : Parts) (o : Result Parts Violation) : Type 0 where
  pub verdict : Resolution
  pub decided : Decides (parts_in n) (AreTied n) verdict
  pub given : answered n verdict ≡ o

-- a refusal is the right answer; want of memory says nothing
abbrev pub IsStop : Parts → Stop → Type 0
IsStop n = StopsBy (λ v. IsAnswer n (Err v))
