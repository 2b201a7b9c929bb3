-- Which texts spell a dump, and which line of another text is the first wrong one.
use Rattle.std.specs.Prelude.{◌≡◌, ℕ, ◌+◌, List, ◌++◌, length, false, Result, Ok, Err}
use Rattle.sci_text.specs.Lines.{has_lf, with_lf, joined, AllClear}
use Rattle.sci_text.specs.declared.stop.TextStop.{TextStop}
use Rattle.sci_text.specs.declared.stop.TextStop.TheVariants as stops
use Rattle.sci_vcd.specs.declared.read.VcdStop.{VcdStop}
use Rattle.sci_vcd.specs.declared.read.VcdStop.TheVariants.{NotVcd, Memory}
use Rattle.sci_vcd.specs.Waveforms.{Waveforms, IsDump}
use Rattle.sci_vcd.specs.Spelling.{spelling}

-- the text is this dump's
abbrev pub Spells : List ℕ → Waveforms → Type 0
Spells bytes w = IsDump w × (bytes ≡ spelling w)

-- the text is the beginning of some dump's
abbrev pub BeginsSpelling : List ℕ → Type 0
BeginsSpelling text = (w : Waveforms) × (more : List ℕ) × IsDump w × (spelling w ≡ text ++ more)

-- Line k, counted from 1, is the first wrong one: the lines before it, each with its LF, are the beginning of some dump's text, and with it they
-- are not; or it has no LF, or is missing, and the text is no dump's.
pub record IsFirstWrong (bytes : List ℕ) (k : ℕ) : Type 0 where
  pub before : List (List ℕ)
  pub rest : List ℕ
  pub clear : AllClear before
  pub split : bytes ≡ joined before ++ rest
  pub number : k ≡ length before + 1
  pub begins : BeginsSpelling (joined before)
  pub wrong : (line more : List ℕ) → has_lf line ≡ false → rest ≡ with_lf line ++ more → BeginsSpelling (joined before ++ with_lf line) → ⊥
  pub none : (w : Waveforms) → Spells bytes w → ⊥

-- what is answered for a text, unless memory ran out
abbrev pub Answers : List ℕ → Result Waveforms VcdStop → Type 0
Answers bytes (Ok w) = Spells bytes w
Answers bytes (Err (NotVcd k)) = IsFirstWrong bytes k
Answers bytes (Err Memory) = Unit {0}

-- this dump is answered, unless memory ran out
abbrev pub Accepts : Result Waveforms VcdStop → Waveforms → Type 0
Accepts (Ok v) w = v ≡ w
Accepts (Err (NotVcd k)) w = ⊥
Accepts (Err Memory) w = Unit {0}

-- this line is blamed, unless memory ran out
abbrev pub Blames : Result Waveforms VcdStop → ℕ → Type 0
Blames (Ok w) k = ⊥
Blames (Err (NotVcd j)) k = j ≡ k
Blames (Err Memory) k = Unit {0}

-- what a stop at this line is
abbrev pub blame_of : TextStop → ℕ → VcdStop
blame_of stops.Memory k = Memory
blame_of stops.Other k = NotVcd k
