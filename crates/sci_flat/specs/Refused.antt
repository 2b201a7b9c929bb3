-- What refuses a tree: the first rule that it breaks on its way to a flat net.
use Rattle.std.specs.Prelude.{◌≡◌, ℕ, ◌≤◌, ◌<◌, ◌⊎◌, pos, true, List, [], ◌∷◌, length, Ok, Err}
use Rattle.sci_base.specs.declared.refusal.Rule.TheVariants.{NoSource, ColumnTwice}
use Rattle.sci_base.specs.Lists.{at}
use Rattle.sci_base.specs.Plain.{Violation}
use Rattle.sci_diagram.specs.Objects.{Objects}
use Rattle.sci_forms.specs.declared.spec.Spec.{Spec}
use Rattle.sci_net.specs.declared.Wire.{Wire}
use Rattle.sci_net.specs.Parts.{column_of}
use Rattle.sci_forms.specs.Form.{is_sensor}
use Rattle.sci_blocks.specs.Blocks.{Placed}
use Rattle.sci_flat.specs.Flat.{block_at, IsWire, blocks}

-- two sensors that read one column of the input file
pub record ShareColumn (a b : Spec) : Type 0 where
  pub first : is_sensor a.kind ≡ true
  pub second : is_sensor b.kind ≡ true
  pub column : column_of a ≡ column_of b

-- the block has regular input k
abbrev pub HasInput : Placed → ℕ → Type 0
HasInput p k = (1 ≤ k) × (k ≤ length p.spec.ins)

-- no output feeds regular input k of block b
abbrev pub IsUnfed : Objects → List Placed → ℕ → ℕ → Type 0
IsUnfed t ps b k = (w : Wire) → IsWire t ps b k w → ⊥

-- some output feeds it
abbrev pub IsFed : Objects → List Placed → ℕ → ℕ → Type 0
IsFed t ps b k = (w : Wire) × IsWire t ps b k w

-- an earlier sensor than block b reads its column
abbrev pub IsTaken : List Placed → ℕ → Type 0
IsTaken ps b = (c : ℕ) × (1 ≤ c) × (c < b) × ShareColumn (block_at ps c).spec (block_at ps b).spec

-- block b breaks neither of these two rules
pub record IsSound (t : Objects) (ps : List Placed) (b : ℕ) : Type 0 where
  pub fed : (k : ℕ) → HasInput (block_at ps b) k → IsFed t ps b k
  pub own : IsTaken ps b → ⊥

-- no block before b breaks them
abbrev pub AreSoundBefore : Objects → List Placed → ℕ → Type 0
AreSoundBefore t ps b = (c : ℕ) → 1 ≤ c → c < b → IsSound t ps c

-- input k of block b is the first that no output feeds
pub record IsNoSource (t : Objects) (ps : List Placed) (b k : ℕ) : Type 0 where
  pub least : 1 ≤ b
  pub most : b ≤ length ps
  pub sound : AreSoundBefore t ps b
  pub input : HasInput (block_at ps b) k
  pub before : (j : ℕ) → 1 ≤ j → j < k → IsFed t ps b j
  pub unfed : IsUnfed t ps b k

-- block b, all of whose inputs are fed, is the first sensor whose column an earlier one reads
pub record IsColumnTwice (t : Objects) (ps : List Placed) (b : ℕ) : Type 0 where
  pub least : 1 ≤ b
  pub most : b ≤ length ps
  pub sound : AreSoundBefore t ps b
  pub fed : (k : ℕ) → HasInput (block_at ps b) k → IsFed t ps b k
  pub taken : IsTaken ps b

abbrev pub no_source : List Placed → ℕ → ℕ → Violation
no_source ps b k = record { rule = NoSource; place = (block_at ps b).place; detail = pos k ∷ [] }

abbrev pub column_twice : List Placed → ℕ → Violation
column_twice ps b = record { rule = ColumnTwice; place = (block_at ps b).place; detail = at (block_at ps b).spec.params 0 ∷ [] }

-- the blocks by number: first each regular input is fed, then no earlier sensor reads the block's column
abbrev pub BreaksBlocks : Objects → List Placed → Violation → Type 0
BreaksBlocks t ps v = ((b : ℕ) × (k : ℕ) × IsNoSource t ps b k × (v ≡ no_source ps b k)) ⊎ ((b : ℕ) × IsColumnTwice t ps b × (v ≡ column_twice ps b))

-- the first rule that the tree breaks: by its tags, its objects and its links, and then by its blocks
abbrev pub Breaks : Objects → Violation → Type 0
Breaks t v = (blocks t ≡ Err v) ⊎ ((ps : List Placed) × (blocks t ≡ Ok ps) × BreaksBlocks t ps v)
