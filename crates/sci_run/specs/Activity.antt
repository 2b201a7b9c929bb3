-- Which blocks a reaction activates.
use Rattle.std.specs.Prelude.{◌≡◌, ℕ, ◌+◌, ◌↔◌, Bool, true, false, ◌&&◌, ◌||◌, List, [], ◌∷◌}
use Rattle.sci_forms.specs.declared.spec.Spec.{Spec}
use Rattle.sci_net.specs.declared.Source.{Source}
use Rattle.sci_net.specs.Parts.{Parts, IsBlock}
use Rattle.sci_reaction.specs.Equations.{Signals, Active}
use Rattle.sci_forms.specs.Form.{is_halt}

-- of each block, whether it is active
abbrev pub Activity : Type 0
Activity = ℕ → Bool

-- the blocks of the net that the source activates on these values
abbrev pub IsActivity : Parts → Source → Signals → Activity → Type 0
IsActivity n s y active = (b : ℕ) → IsBlock n b → (active b ≡ true) ↔ Active n s y b

abbrev pub halts_from : ℕ → List Spec → Activity → Bool
halts_from b [] active = false
halts_from b (s ∷ ss) active = (active b && is_halt s.kind) || halts_from (b + 1) ss active

-- a HALT_f is active
abbrev pub halts : Parts → Activity → Bool
halts n active = halts_from 1 n.specs active
