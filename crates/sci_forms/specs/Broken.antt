-- A rule that a block breaks, with its place.
use Rattle.std.specs.Prelude.{ℕ, ℤ, List, [], ◌∷◌}
use Rattle.sci_base.specs.Plain.{Violation}
use Rattle.sci_forms.specs.declared.broken.Broken.{Broken}
use Rattle.sci_forms.specs.declared.broken.Detail.{Detail}
use Rattle.sci_forms.specs.declared.broken.Detail.TheVariants.{Empty, Pair, Triple}

-- the numbers that a refusal shows
abbrev pub numbers : Detail → List ℤ
numbers Empty = []
numbers (Pair a b) = a ∷ b ∷ []
numbers (Triple a b c) = a ∷ b ∷ c ∷ []

abbrev pub violation_at : List ℕ → Broken → Violation
violation_at place b = record { rule = b.rule; place = place; detail = numbers b.detail }
