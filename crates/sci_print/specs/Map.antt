-- The map of a net: a line for each block, with its number, its place in the diagram, the name of its kind, and the type and size of each
-- output.
use Rattle.std.specs.Prelude.{ℕ, zero, suc, List, [], ◌∷◌, ◌++◌, length, codes, decimal}
use Rattle.std.specs.Fmt.{signed_decimal}
use Rattle.sci_base.specs.declared.Ty.{Ty}
use Rattle.sci_base.specs.declared.Ty.TheVariants.{I32, I16, I8, U32, U16, U8}
use Rattle.sci_print.specs.Line.{place_text}
use Rattle.sci_forms.specs.declared.ports.Port.{Port}
use Rattle.sci_forms.specs.declared.spec.Spec.{Spec}
use Rattle.sci_names.specs.Names.{name_of}
use Rattle.sci_forms.specs.Ports.{type_of}
use Rattle.sci_net.specs.Parts.{Parts, spec_of, path_of}

abbrev pub type_text : Ty → List ℕ
type_text I32 = codes "int32"
type_text I16 = codes "int16"
type_text I8 = codes "int8"
type_text U32 = codes "uint32"
type_text U16 = codes "uint16"
type_text U8 = codes "uint8"

-- a space, the type, and the rows and columns in brackets
unfoldable pub output_text : Port → List ℕ
output_text p = codes " " ++ (type_text (type_of p) ++ (codes "[" ++ (signed_decimal p.rows ++ (codes "x" ++ (signed_decimal p.cols ++ codes "]")))))

-- all of these outputs
abbrev pub outputs_text : List Port → List ℕ
outputs_text [] = []
outputs_text (p ∷ ps) = output_text p ++ outputs_text ps

unfoldable pub number_text : ℕ → List ℕ
number_text b = decimal b ++ codes " "

-- what stands behind the place
unfoldable pub kind_text : Spec → List ℕ
kind_text s = codes " " ++ name_of s.kind

unfoldable pub block_line : ℕ → List ℕ → Spec → List ℕ
block_line b path s = number_text b ++ (place_text path ++ (kind_text s ++ (outputs_text s.outs ++ codes "\n")))

-- the lines of k blocks, from block b on
abbrev pub lines_from : Parts → ℕ → ℕ → List ℕ
lines_from n b zero = []
lines_from n b (suc k) = block_line b (path_of n b) (spec_of n b) ++ lines_from n (suc b) k

abbrev pub map_text : Parts → List ℕ
map_text n = lines_from n 1 (length n.specs)
