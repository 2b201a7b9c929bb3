-- `vcdat`: what is told of a dump at a tick.
use Rattle.std.specs.Prelude.{ℕ, ◌≡◌, pos, List, [], ◌∷◌}
use Rattle.sci_base.specs.Plain.{Violation}
use Rattle.sci_base.specs.declared.refusal.Rule.TheVariants.{NotVcd}
use Rattle.sci_vcd.specs.Waveforms.{Waveforms}
use Rattle.sci_vcd.specs.Blame.{Spells, IsFirstWrong}
use Rattle.sci_answers.specs.Answer.{prints}
use Rattle.sci_answers.specs.Course.{dump_slot, Course, gives, reads}
use Rattle.sci_print.specs.Values.{values_text}

-- this line of the file is blamed, from 1
abbrev pub not_vcd : ℕ → Violation
not_vcd line = record { rule = NotVcd; place = []; detail = pos line ∷ [] }

-- the bytes spell this dump
abbrev pub AcceptsDump : List ℕ → Waveforms → Type 0
AcceptsDump bytes w = Spells bytes w

-- they spell none
pub record BreaksDump (bytes : List ℕ) (v : Violation) : Type 0 where
  pub line : ℕ
  pub blamed : IsFirstWrong bytes line
  pub told : v ≡ not_vcd line

-- a dump is read
abbrev pub dump_at_course : (v : List ℕ) (tick : ℕ) → Course
dump_at_course v tick = reads Waveforms dump_slot v AcceptsDump BreaksDump (λ w. gives (λ a. a ≡ prints (values_text w tick)))
