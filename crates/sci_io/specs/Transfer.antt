-- What reading some bytes behind others may come to.
use Rattle.std.specs.Prelude.{ℕ, ◌≡◌, ◌<◌, ◌≤◌, ◌++◌, List, length, Option, Result, Ok, Err}
use Rattle.std.specs.Io.KnownBytes.{Consumes, IsAtEnd}
use Rattle.sci_io.specs.declared.folder.ReadEnd.{ReadEnd}

-- So many bytes of the reader stand behind the others, none only at its end.
abbrev pub ReadsMore : Option (List ℕ) → Option (List ℕ) → List ℕ → List ℕ → ℕ → Result ℕ ReadEnd → Type 0
ReadsMore left left' bytes bytes' most (Ok count) = (piece : List ℕ) × (bytes' ≡ bytes ++ piece) × Consumes left left' piece × (length piece ≡ count) × (count ≤ most) × (count ≡ 0 → 0 < most → IsAtEnd left')
ReadsMore left left' bytes bytes' most (Err _) = Unit {0}
