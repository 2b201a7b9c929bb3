-- Which line of a text is blamed.
use Rattle.std.specs.Prelude.{◌≡◌, ℕ, ◌+◌, List, ◌++◌, length, false}
use Rattle.sci_text.specs.Lines.{has_lf, with_lf, joined, AllClear}
use Rattle.sci_net.specs.Parts.{Parts}
use Rattle.sci_reaction.specs.Memory.{Columns}
use Rattle.sci_save.specs.Saved.{Saved}
use Rattle.sci_save.specs.Valid.{IsValid}
use Rattle.sci_save.specs.Text.{saved_text}

-- what may be saved, and its text
pub record Spells (n : Parts) (i : Columns) (bytes : List ℕ) (m : Saved) : Type 0 where
  pub valid : IsValid n i m
  pub text : bytes ≡ saved_text n m

-- the beginning of a text of what may be saved
pub record IsFront (n : Parts) (i : Columns) (front : List ℕ) : Type 0 where
  pub saved : Saved
  pub valid : IsValid n i saved
  pub more : List ℕ
  pub text : saved_text n saved ≡ front ++ more

-- No text of what may be saved is these bytes. The lines before line k, counted from 1, are together the beginning of one; with line k they
-- are not, or it has no LF, or it is missing.
pub record IsBlamed (n : Parts) (i : Columns) (bytes : List ℕ) (k : ℕ) : Type 0 where
  pub before : List (List ℕ)
  pub clear : AllClear before
  pub number : k ≡ length before + 1
  pub rest : List ℕ
  pub split : bytes ≡ joined before ++ rest
  pub front : IsFront n i (joined before)
  pub next : (line more : List ℕ) → has_lf line ≡ false → rest ≡ with_lf line ++ more → IsFront n i (joined before ++ with_lf line) → ⊥
  pub none : (m : Saved) → Spells n i bytes m → ⊥
