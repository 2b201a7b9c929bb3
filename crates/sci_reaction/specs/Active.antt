-- Which blocks a source activates, as least sets.
use Rattle.std.specs.Prelude.{◌≡◌, ℕ, true, ⊤}
use Rattle.sci_forms.specs.Form.{is_sync}
use Rattle.sci_net.specs.declared.Feed.{Feed}
use Rattle.sci_net.specs.declared.Source.{Source}
use Rattle.sci_net.specs.Parts.{Parts, spec_of}
use Rattle.sci_reaction.specs.Links.{Supplies, Feeds, Inherits, SetOff}

-- the least set that has the seeds and, with a source block of one of its inputs, each block that inherits
pub data Inherited (n : Parts) (seed : ℕ → Type 0) : ℕ → Type 0 where
  seeded : (b : ℕ) → seed b → Inherited n seed b
  passed : (a b : ℕ) → Inherited n seed a → Inherits n b → Supplies n a b → Inherited n seed b

-- activation output q reaches b: it feeds b, or reaches the source block of an input of b, which inherits
abbrev pub Reaches : Parts → Feed → ℕ → Type 0
Reaches n q = Inherited n (Feeds n q)

-- the source activates b whatever the values are
abbrev pub IsAlways : Parts → Source → ℕ → Type 0
IsAlways n s = Inherited n (SetOff n s)

-- the block routes its activation to one of its activation outputs, at once
abbrev pub IsSync : Parts → ℕ → Type 0
IsSync n b = is_sync (spec_of n b).kind ≡ true

-- The least set of blocks that the source activates, where `takes c p` says that synchronous block c takes its branch p.
pub data Spread (n : Parts) (s : Source) (takes : ℕ → ℕ → Type 0) : ℕ → Type 0 where
  set_off : (b : ℕ) → SetOff n s b → Spread n s takes b
  taken : (c p b : ℕ) → Spread n s takes c → IsSync n c → takes c p → Feeds n (record { block = c; port = p }) b → Spread n s takes b
  inherited : (a b : ℕ) → Spread n s takes a → Inherits n b → Supplies n a b → Spread n s takes b

-- the blocks that may be active: every branch is taken
abbrev pub Possible : Parts → Source → ℕ → Type 0
Possible n s = Spread n s (λ c p. ⊤)
