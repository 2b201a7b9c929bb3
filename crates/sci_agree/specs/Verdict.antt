-- The verdict on a text against the one that is due.
use Rattle.std.specs.Prelude.{◌≡◌, ◌≢◌, ℕ, ◌+◌, List}
use Rattle.sci_agree.specs.declared.verdict.Verdict.{Verdict}
use Rattle.sci_agree.specs.declared.verdict.Verdict.TheVariants.{Yes, No}
use Rattle.sci_agree.specs.Lines.{IsAgreement}

-- Yes with the number of its lines where the text is the one that is due; else No with the number, counted from 1, of the first line behind those
-- that agree.
abbrev pub IsVerdict : (due text : List ℕ) → Verdict → Type 0
IsVerdict due text (Yes lines) = (text ≡ due) × IsAgreement text due lines
IsVerdict due text (No line) = (text ≢ due) × ((lines : ℕ) × IsAgreement text due lines × (line ≡ lines + 1))
