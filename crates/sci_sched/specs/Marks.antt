-- What is marked of a source while its row is built.
use Rattle.std.specs.Prelude.{◌≡◌, ℕ, ◌+◌, ◌<◌, ◌≤◌, ◌↔◌, List, [], length, vec_len, Contains, slice_index, slice_index_or}
use Rattle.std.specs.Int.{bit_at}
use Rattle.sci_base.specs.declared.limits.TheConstants.{PORTS}
use Rattle.sci_loop.specs.Lists.{plain, list_at}
use Rattle.sci_net.specs.declared.Source.{Source}
use Rattle.sci_net.specs.Parts.{Parts}
use Rattle.sci_reaction.specs.Links.{SourceFeeds}
use Rattle.sci_reaction.specs.Active.{Possible, IsAlways}
use Rattle.sci_reaction.specs.Depends.{Conditions}
use Rattle.sci_reaction.specs.Equations.{HasBits}
use Rattle.sci_inherit.specs.declared.Fed.{Fed}
use Rattle.sci_sched.specs.declared.marks.Marks.{Marks}

-- the input has a bit, in a mask of one of the first `count` numbers
pub record IsFitting (count : ℕ) (f : Fed) : Type 0 where
  pub block : f.block < count
  pub least : 1 ≤ f.input
  pub most : f.input ≤ PORTS

-- the masks have the bits of these activation inputs, and no other
pub record HaveFed (feds : List Fed) (masks : List ℕ) : Type 0 where
  pub exactly : (b p : ℕ) → (bit_at (slice_index masks b) p ≡ 1) ↔ Contains feds (record { block = b; input = p + 1 })

-- the masks of the first k of these are cleared, and the others have no other bits
pub record ClearedTo (feds : List Fed) (k : ℕ) (masks : List ℕ) : Type 0 where
  pub bits : (b p : ℕ) → bit_at (slice_index masks b) p ≡ 1 → Contains feds (record { block = b; input = p + 1 })
  pub cleared : (m : ℕ) (d : Fed) → m < k → slice_index masks (slice_index_or feds m d).block ≡ 0

-- x goes into the list of b, which is one of these
pub record IsPutTo (reached : List ℕ) (c b x : ℕ) : Type 0 where
  pub reaches : Contains reached b
  pub is : c ≡ x

-- one of these blocks goes into the list of b, which is among those that it reaches
pub record PutOnward (onward : List (List ℕ)) (blocks : List ℕ) (b x : ℕ) : Type 0 where
  pub one : Contains blocks x
  pub reaches : Contains (list_at onward x) b

-- the lists of these blocks are empty, and the others have nothing new
pub record LeavesOthers (blocks : List ℕ) (old new : List (List ℕ)) : Type 0 where
  pub long : length new ≡ length old
  pub left : (b x : ℕ) → Contains (list_at new b) x → Contains (list_at old b) x
  pub empty : (b x : ℕ) → Contains (list_at new b) x → Contains blocks b → ⊥

-- marks for so many numbers
pub record AreSized (count : ℕ) (m : Marks) : Type 0 where
  pub always : m.always.count ≡ count
  pub conditions : vec_len m.conditions ≡ count
  pub masks : length m.masks.items ≡ count

-- no list has a block, and no mask a bit
pub record AreClear (m : Marks) : Type 0 where
  pub conditions : (b c : ℕ) → Contains (list_at (plain m.conditions.items) b) c → ⊥
  pub masks : HaveFed [] m.masks.items

-- what the source does
pub record MarkSource (n : Parts) (s : Source) (m : Marks) : Type 0 where
  pub always : (b : ℕ) → Contains m.always.found b ↔ IsAlways n s b
  pub conditions : (b c : ℕ) → Contains (list_at (plain m.conditions.items) b) c ↔ (Possible n s c × Conditions n c b)
  pub masks : (b : ℕ) → HasBits (slice_index m.masks.items b) (SourceFeeds n s b)
