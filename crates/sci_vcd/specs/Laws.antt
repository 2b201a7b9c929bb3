-- What holds of all texts and dumps.
use Rattle.std.specs.Prelude.{◌≡◌, ℕ, ◌≤◌, List, length, Option}
use Rattle.sci_base.specs.declared.limits.TheConstants.{TICKS}
use Rattle.sci_net.specs.Parts.{Parts}
use Rattle.sci_net.specs.Net.{IsNet, all_elements}
use Rattle.sci_vcd.specs.Waveforms.{Waveforms, AreSignals, IsDump}
use Rattle.sci_vcd.specs.Spelling.{spelling}
use Rattle.sci_vcd.specs.Blame.{Spells, IsFirstWrong}
use Rattle.sci_vcd.specs.Signals.{signals_of}
use Rattle.sci_vcd.specs.Writing.{Writing, IsWriting, MayClose, HasTold, IsTickTold}

-- no two dumps share a spelling
abbrev pub OneDump : Type 0
OneDump = (v w : Waveforms) → IsDump v → IsDump w → spelling v ≡ spelling w → v ≡ w

-- at most one line of a text is the first wrong one
abbrev pub OneFirstWrong : Type 0
OneFirstWrong = (bytes : List ℕ) (j k : ℕ) → IsFirstWrong bytes j → IsFirstWrong bytes k → j ≡ k

-- the text of a dump has no wrong line
abbrev pub NotBoth : Type 0
NotBoth = (bytes : List ℕ) (w : Waveforms) (k : ℕ) → Spells bytes w → IsFirstWrong bytes k → ⊥

-- the signals of a net are those of a dump, one for each element
abbrev pub NetSignals : Type 0
NetSignals = (n : Parts) → IsNet n → AreSignals (signals_of n) × (length (signals_of n) ≡ all_elements n.specs)

-- what is written tick by tick is a dump's text behind each of them
abbrev pub WrittenIsDump : Type 0
WrittenIsDump =
    (o : Writing) (told : Option Waveforms) (t : ℕ) → IsWriting o → HasTold o told → MayClose o.closed t → t ≤ TICKS → IsTickTold o told t
