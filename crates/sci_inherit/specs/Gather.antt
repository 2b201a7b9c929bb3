-- The lists by source and by block, as they are made.
use Rattle.std.specs.Prelude.{◌≡◌, ℕ, suc, ◌+◌, ◌<◌, ◌⊎◌, ◌↔◌, Bool, true, List, length, Contains, nat_eq}
use Rattle.std.specs.List.{IsDistinct}
use Rattle.sci_loop.specs.Lists.{list_at, Adds}
use Rattle.sci_loop.specs.Walk.{IsMarked}
use Rattle.sci_net.specs.declared.Feed.{Feed}
use Rattle.sci_net.specs.declared.Source.{Source}
use Rattle.sci_net.specs.Parts.{Parts, AreRising, precedes}
use Rattle.sci_reaction.specs.Links.{IsConstant, SourceFeeds, SetOff}
use Rattle.sci_reaction.specs.Active.{Reaches, IsAlways, IsSync}
use Rattle.sci_reaction.specs.Depends.{Conditions}
use Rattle.sci_inherit.specs.declared.Fed.{Fed}
use Rattle.sci_inherit.specs.declared.gather.Senders.{Senders}
use Rattle.sci_inherit.specs.declared.gather.Senders.TheVariants.{Each, Synchronous}

-- each list has what it should, by its place
abbrev pub AreEach : {X : Type 0} → (ℕ → List X → Type 0) → List (List X) → Type 0
AreEach {X} is ls = (k : ℕ) → k < length ls → is k (list_at ls k)

-- ---- by source

-- the activation inputs that the source feeds
abbrev pub AreFeeding : Parts → Source → List Fed → Type 0
AreFeeding n s fs = (f : Fed) → Contains fs f ↔ SourceFeeds n s f.block f.input

-- the blocks that the source activates by itself
abbrev pub AreSetOff : Parts → Source → List ℕ → Type 0
AreSetOff n s bs = (b : ℕ) → Contains bs b ↔ SetOff n s b

-- the blocks that the source activates whatever the values are, each once
pub record AreAlways (n : Parts) (s : Source) (bs : List ℕ) : Type 0 where
  pub once : IsDistinct nat_eq bs
  pub exactly : (b : ℕ) → Contains bs b ↔ IsAlways n s b

-- those of the first k blocks that have neither inputs nor activation inputs
pub record AreConstants (n : Parts) (k : ℕ) (bs : List ℕ) : Type 0 where
  pub exactly : (b : ℕ) → Contains bs b ↔ ((b < k + 1) × IsConstant n b)

-- ---- by block

-- q goes into the list at p
pub record Goes (goes : ℕ → Type 0) (q : Feed) (p : ℕ) (x : Feed) : Type 0 where
  pub reached : goes (suc p)
  pub is : q ≡ x

-- q has been put at the end of the lists of the blocks that it goes to
pub record Pushes (goes : ℕ → Type 0) (q : Feed) (old new : List (List Feed)) : Type 0 where
  pub adds : Adds (Goes goes q) old new
  pub rest : (p : ℕ) → (goes (suc p) → ⊥) → list_at new p ≡ list_at old p
  pub rising : (p : ℕ) → AreRising (list_at old p) → ((x : Feed) → Contains (list_at old p) x → precedes x q ≡ true) → AreRising (list_at new p)

-- of the activation outputs that are done, those that reach each block, in order
pub record Gathered (n : Parts) (done : Feed → Type 0) (ls : List (List Feed)) : Type 0 where
  pub long : length ls ≡ length n.specs
  pub rising : (p : ℕ) → AreRising (list_at ls p)
  pub exactly : (p : ℕ) (q : Feed) → Contains (list_at ls p) q ↔ (done q × Reaches n q (suc p))

-- the activation outputs of b are gathered
abbrev pub IsSender : Parts → List Bool → Senders → ℕ → Type 0
IsSender n w Each b = IsMarked w b
IsSender n w Synchronous b = IsMarked w b × IsSync n b

-- those of the senders among the first k blocks
pub record OfBlocks (sends : ℕ → Type 0) (k : ℕ) (q : Feed) : Type 0 where
  pub sender : sends q.block
  pub below : q.block < k + 1

-- those of the senders before b, and the first m of b
pub record OfPorts (sends : ℕ → Type 0) (b m : ℕ) (q : Feed) : Type 0 where
  pub sender : sends q.block
  pub below : (q.block < b) ⊎ ((q.block ≡ b) × (q.port < m + 1))

-- the blocks that these activation inputs are of
pub record IsFed (fs : List Fed) (b : ℕ) : Type 0 where
  pub input : ℕ
  pub has : Contains fs (record { block = b; input = input })

-- the blocks that a branch of c reaches, each once
pub record AreOnward (n : Parts) (c : ℕ) (bs : List ℕ) : Type 0 where
  pub once : IsDistinct nat_eq bs
  pub exactly : (b : ℕ) → Contains bs b ↔ Conditions n c b
