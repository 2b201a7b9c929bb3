-- The laws of verdicts.
use Rattle.std.specs.Prelude.{◌≡◌, ◌≢◌, ℕ, ◌+◌, List}
use Rattle.sci_agree.specs.declared.verdict.Verdict.{Verdict}
use Rattle.sci_agree.specs.declared.verdict.Verdict.TheVariants.{Yes, No}
use Rattle.sci_agree.specs.Lines.{lines_of, AgreeOn, line_behind}
use Rattle.sci_agree.specs.Verdict.{IsVerdict}

-- a text has one verdict
abbrev pub OneVerdict : Type 0
OneVerdict = (due text : List ℕ) (v w : Verdict) → IsVerdict due text v → IsVerdict due text w → v ≡ w

-- Yes: it is the text that is due, and has so many lines
abbrev pub YesIsDue : Type 0
YesIsDue = (due text : List ℕ) (lines : ℕ) → IsVerdict due text (Yes lines) → (text ≡ due) × (lines_of text ≡ lines)

-- No: all lines before this one are equal, and this one isn't: it is missing, or too much, or wrong
abbrev pub NoIsFirst : Type 0
NoIsFirst =
    (due text : List ℕ) (line : ℕ) → IsVerdict due text (No line) →
    (before : ℕ) × (line ≡ before + 1) × AgreeOn before text due × (line_behind text before ≢ line_behind due before)
