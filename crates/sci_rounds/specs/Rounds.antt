-- A reaction without a schedule. Of the possible blocks, which are in no order, some are done; the next may be any all of whose dependencies
-- are done.
use Rattle.std.specs.Prelude.{◌≡◌, ℕ, ◌<◌, ◌↔◌, true, ℤ, List, [], ◌∷◌, ◌++◌, Contains, Ok, Err}
use Rattle.sci_base.specs.declared.observation.StopWord.{StopWord}
use Rattle.sci_loop.specs.Depth.{ChainTo}
use Rattle.sci_net.specs.declared.Feed.{Feed}
use Rattle.sci_net.specs.declared.Source.{Source}
use Rattle.sci_net.specs.Parts.{Parts, spec_of, feeds_of}
use Rattle.sci_reaction.specs.Links.{SourceFeeds}
use Rattle.sci_reaction.specs.Active.{IsSync, Possible, IsAlways, Reaches}
use Rattle.sci_reaction.specs.Depends.{Depends, Precedes}
use Rattle.sci_reaction.specs.Memory.{Memory, Columns}
use Rattle.sci_reaction.specs.Equations.{Signals, HasBits, input_in, branch_on, answer, Active, IsMaskOf}
use Rattle.sci_reaction.specs.Result.{Stopped, IsResult}
use Rattle.sci_reaction.specs.Schedule.{Guard, Entry, branch_of}
use Rattle.sci_reaction.specs.Pass.{Progress, put, applies, mask_in, with_values, IsFront}
use Rattle.sci_pass.specs.Noted.{IsNoted}

-- ---- what is done, and what may be done next

-- these are possible blocks, and what they depend on is among them
pub record IsClosed (n : Parts) (s : Source) (done : List ℕ) : Type 0 where
  pub possible : (c : ℕ) → Contains done c → Possible n s c
  pub closed : (c d : ℕ) → Contains done c → Depends n s c d → Contains done d

-- a possible block that isn't done, and all that it depends on is
pub record IsReady (n : Parts) (s : Source) (done : List ℕ) (b : ℕ) : Type 0 where
  pub possible : Possible n s b
  pub fresh : Contains done b → ⊥
  pub needs : (d : ℕ) → Depends n s b d → Contains done d

-- ---- how its activation is told

-- g is a branch of a synchronous block that reaches b, and these are the activation inputs of b that it feeds
pub record IsBranch (n : Parts) (b : ℕ) (g : Guard) : Type 0 where
  pub sync : IsSync n g.block
  pub reaches : Reaches n (branch_of g) b
  pub feeds : HasBits g.mask (λ p. Contains (feeds_of n b p) (branch_of g))

-- An entry whose guards are branches that reach its block, in any order: those of all synchronous blocks that the source may activate, and maybe
-- of others, which it never activates.
pub record TellsActivation (n : Parts) (s : Source) (e : Entry) : Type 0 where
  pub always_is : (e.always ≡ true) ↔ IsAlways n s e.block
  pub mask_is : HasBits e.mask (SourceFeeds n s e.block)
  pub branches : (g : Guard) → Contains e.guards g → IsBranch n e.block g
  pub all : (q : Feed) → Possible n s q.block → IsSync n q.block → Reaches n q e.block → (g : Guard) × Contains e.guards g × (branch_of g ≡ q)

-- ---- what it comes to

-- It is active exactly where its entry applies, on the entry's mask. Where it is idle, or has its values, it is done; where it has none, and all
-- possible blocks before it by depth and number are done, the reaction stops there.
pub record IsNextDone (n : Parts) (m : Memory) (i : Columns) (s : Source) (done : List ℕ) (w : Progress) (b : ℕ) : Type 0 where
  pub told : (e : Entry) → e.block ≡ b → TellsActivation n s e → ((applies n w e ≡ true) ↔ Active n s w.values b) × IsMaskOf n s w.values b (mask_in n w e)
  pub closed : IsClosed n s (done ++ b ∷ [])
  pub idle : (Active n s w.values b → ⊥) → IsFront n m i s (done ++ b ∷ []) w
  pub valued : (mask : ℕ) (vs : List ℤ) → Active n s w.values b → IsMaskOf n s w.values b mask → answer n m i b mask (input_in n w.values b) ≡ Ok vs
      → IsFront n m i s (done ++ b ∷ []) (with_values w b vs)
  -- branches and masks that are noted of the blocks that were active stay true
  pub noted : (vs : List ℤ) (branch mask : ℕ → ℕ) (taken here : ℕ) → IsNoted n s w branch mask → (IsSync n b → branch_on (spec_of n b) (input_in n w.values b) ≡ taken)
      → IsMaskOf n s w.values b here → IsNoted n s (with_values w b vs) (put branch b taken) (put mask b here)
  pub stops : (mask : ℕ) (word : StopWord) → ((c : ℕ) → Possible n s c → Precedes n s c b → Contains done c) → Active n s w.values b → IsMaskOf n s w.values b mask
      → answer n m i b mask (input_in n w.values b) ≡ Err word → IsResult n m i s (Stopped b word)

-- On these values it comes to the same as on those.
pub record IsAlikeOn (n : Parts) (m : Memory) (i : Columns) (s : Source) (b : ℕ) (y z : Signals) : Type 0 where
  pub active : Active n s y b → Active n s z b
  pub masks : (mask : ℕ) → IsMaskOf n s y b mask → IsMaskOf n s z b mask
  pub answers : (mask : ℕ) → answer n m i b mask (input_in n y b) ≡ answer n m i b mask (input_in n z b)
  pub branches : branch_on (spec_of n b) (input_in n y b) ≡ branch_on (spec_of n b) (input_in n z b)

-- ---- rounds

-- no chain of k dependencies ends at the block
abbrev pub IsWithin : Parts → Source → ℕ → ℕ → Type 0
IsWithin n s k b = ChainTo (Depends n s) k b → ⊥

-- behind k rounds: of the possible blocks those are done at which no chain of k dependencies ends, whose depth is k or less
pub record IsBehindRounds (n : Parts) (s : Source) (k : ℕ) (done : List ℕ) : Type 0 where
  pub possible : (c : ℕ) → Contains done c → Possible n s c
  pub within : (c : ℕ) → Possible n s c → Contains done c ↔ IsWithin n s k c

-- Within a round that began with these blocks done: besides them, those that were ready then and whose number is below b.
pub record IsInRound (n : Parts) (s : Source) (begun : List ℕ) (b : ℕ) (done : List ℕ) : Type 0 where
  pub kept : (c : ℕ) → Contains begun c → Contains done c
  pub earlier : (c : ℕ) → IsReady n s begun c → c < b → Contains done c
