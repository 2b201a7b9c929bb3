-- What holds of all texts and of all that may be saved.
use Rattle.std.specs.Prelude.{◌≡◌, ◌⊎◌, ◌≤◌, ℕ, List, length}
use Rattle.sci_base.specs.declared.limits.TheConstants.{TEXT_BYTES}
use Rattle.sci_net.specs.Parts.{Parts}
use Rattle.sci_net.specs.Net.{IsNet}
use Rattle.sci_reaction.specs.Memory.{Columns, IsMemory}
use Rattle.sci_save.specs.Saved.{Saved, memory_of}
use Rattle.sci_save.specs.Bounds.{AreShort}
use Rattle.sci_save.specs.Valid.{IsShaped, IsValid}
use Rattle.sci_save.specs.Text.{saved_text}
use Rattle.sci_save.specs.Blame.{Spells, IsBlamed}

-- a text saves one thing
abbrev pub OneSaved : Type 0
OneSaved = (n : Parts) (i : Columns) (bytes : List ℕ) (m o : Saved) → IsNet n → AreShort i → Spells n i bytes m → Spells n i bytes o → m ≡ o

-- the text of what may be saved is read as this, and no line of it is blamed
abbrev pub TextIsRead : Type 0
TextIsRead = (n : Parts) (i : Columns) (m : Saved) (k : ℕ) → IsValid n i m → Spells n i (saved_text n m) m × (IsBlamed n i (saved_text n m) k → ⊥)

-- at most one line of a text is blamed
abbrev pub OneBlamed : Type 0
OneBlamed = (n : Parts) (i : Columns) (bytes : List ℕ) (j k : ℕ) → IsBlamed n i bytes j → IsBlamed n i bytes k → j ≡ k

-- each text saves something, or a line of it is blamed
abbrev pub OneIsDue : Type 0
OneIsDue = (n : Parts) (i : Columns) (bytes : List ℕ) → IsNet n → AreShort i → ((m : Saved) × Spells n i bytes m) ⊎ ((k : ℕ) × IsBlamed n i bytes k)

-- the memory that was saved is in range
abbrev pub SavedInRange : Type 0
SavedInRange = (n : Parts) (m : Saved) → IsNet n → IsShaped n m → IsMemory n (memory_of m)

-- the text of what may be saved has no more bytes than a file of what was saved may have
abbrev pub SavedIsShort : Type 0
SavedIsShort = (n : Parts) (i : Columns) (m : Saved) → IsNet n → AreShort i → IsValid n i m → length (saved_text n m) ≤ TEXT_BYTES
