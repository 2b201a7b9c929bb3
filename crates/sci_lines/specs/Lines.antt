-- The lines of a reaction: that of its start or event, and those of its values, each with its block, port and element, counted from 1.
use Rattle.std.specs.Prelude.{ℕ, ℤ, pos, List, [], ◌∷◌, ◌++◌, codes}
use Rattle.std.specs.Fmt.{decimal, signed_decimal}
use Rattle.sci_base.specs.declared.observation.Obs.{Obs}
use Rattle.sci_base.specs.declared.observation.Obs.TheVariants.{Start, Event, Val, End, Stop}

-- the first observation of a reaction: of the start, or of an event
abbrev pub IsHeader : Obs → Type 0
IsHeader (Val b p e v) = ⊥
IsHeader Start = Unit {0}
IsHeader (Event d b p) = Unit {0}
IsHeader (End w) = ⊥
IsHeader (Stop w b p) = ⊥

-- whose value a line tells
pub record Named : Type 0 where
  pub block : ℕ
  pub port : ℕ
  pub element : ℕ

-- the line up to the value
abbrev pub start_text : Named → List ℕ
start_text n = codes "val" ++ (codes " " ++ (decimal n.block ++ (codes " " ++ (decimal n.port ++ (codes " " ++ (decimal n.element ++ codes " "))))))

-- what is observed of a value
abbrev pub value_of : Named → ℤ → Obs
value_of n v = Val (pos n.block) (pos n.port) (pos n.element) v

-- the line of a value behind its start
abbrev pub value_line : List ℕ → ℤ → List ℕ
value_line h v = h ++ (signed_decimal v ++ codes "\n")

-- the lines of values behind their starts
abbrev pub value_lines : List (List ℕ) → List ℤ → List ℕ
value_lines [] vs = []
value_lines (h ∷ hs) [] = []
value_lines (h ∷ hs) (v ∷ vs) = value_line h v ++ value_lines hs vs
