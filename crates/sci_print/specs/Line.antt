-- The line that tells a refusal: the rule's number and name, the place, and the details.
use Rattle.std.specs.Prelude.{ℕ, ℤ, List, [], ◌∷◌, ◌++◌, codes, decimal}
use Rattle.std.specs.Fmt.{signed_decimal}
use Rattle.sci_base.specs.Plain.{Violation}
use Rattle.sci_base.specs.Rules.{number_of, name_of}

unfoldable pub step_text : ℕ → List ℕ
step_text p = codes "/" ++ decimal p

abbrev pub steps_text : List ℕ → List ℕ
steps_text [] = []
steps_text (p ∷ ps) = step_text p ++ steps_text ps

-- the positions, with a slash between two; a minus sign for the file as a whole
abbrev pub place_text : List ℕ → List ℕ
place_text [] = codes "-"
place_text (p ∷ ps) = decimal p ++ steps_text ps

unfoldable pub detail_text : ℤ → List ℕ
detail_text n = codes " " ++ signed_decimal n

abbrev pub details_text : List ℤ → List ℕ
details_text [] = []
details_text (n ∷ ns) = detail_text n ++ details_text ns

unfoldable pub head_text : Violation → List ℕ
head_text v = codes "refused " ++ (decimal (number_of v.rule) ++ (codes " " ++ (name_of v.rule ++ codes " at ")))

unfoldable pub refused_line : Violation → List ℕ
refused_line v = head_text v ++ (place_text v.place ++ (details_text v.detail ++ codes "\n"))
