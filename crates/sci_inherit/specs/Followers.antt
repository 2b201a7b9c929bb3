-- The links of a net, from where they begin.
use Rattle.std.specs.Prelude.{◌≡◌, ℕ, ◌+◌, ◌<◌, ◌≤◌, ◌⊎◌, ◌↔◌, Bool, true, ◌&&◌, ◌||◌, nat_lt, nat_eq, List, length, map, AllPairs, Contains, Vec}
use Rattle.std.specs.declared.alloc.Global.{Global}
use Rattle.sci_loop.specs.Lists.{plain, list_at}
use Rattle.sci_loop.specs.Walk.{IsMarked}
use Rattle.sci_net.specs.declared.Feed.{Feed}
use Rattle.sci_net.specs.Parts.{Parts, IsBlock, spec_of, wire_of, feeds_of}
use Rattle.sci_reaction.specs.Links.{Supplies, Feeds, Inherits}
use Rattle.sci_inherit.specs.declared.Fed.{Fed}
use Rattle.sci_inherit.specs.declared.followers.Followers.{Followers}
use Rattle.sci_inherit.specs.declared.rows.FedRows.{FedRows}

-- of the first k steps, one gives it
pub record Upto {P X : Type 0} (gives : ℕ → P → X → Type 0) (k : ℕ) (p : P) (x : X) : Type 0 where
  pub step : ℕ
  pub below : step < k
  pub given : gives step p x

-- ---- what inherits

-- b inherits, and a is the source block of one of its inputs
pub record IsHeir (n : Parts) (a b : ℕ) : Type 0 where
  pub inherits : Inherits n b
  pub supplies : Supplies n a b

-- input k + 1 of b gives b to its source block
pub record InputGives (n : Parts) (b k a x : ℕ) : Type 0 where
  pub from : (wire_of n b (k + 1)).block ≡ a
  pub is : b ≡ x

-- block k + 1 is given as heir
pub record HeirGiven (n : Parts) (k a x : ℕ) : Type 0 where
  pub is : k + 1 ≡ x
  pub heir : IsHeir n a x

-- the heirs of each block, by number
abbrev pub AreHeirs : Parts → List (List ℕ) → Type 0
AreHeirs n ls = (a b : ℕ) → Contains (list_at ls a) b ↔ IsHeir n a b

-- ---- what is fed, by block

-- an activation output of c feeds b
pub record FeedsSome (n : Parts) (c b : ℕ) : Type 0 where
  pub port : ℕ
  pub feeds : Feeds n (record { block = c; port = port }) b

-- the sender gets the block
pub record IsTarget (sender block a x : ℕ) : Type 0 where
  pub from : a ≡ sender
  pub is : block ≡ x

-- each block with one of these activation outputs gets the block
pub record SenderGets (fs : List Feed) (block a x : ℕ) : Type 0 where
  pub port : ℕ
  pub has : Contains fs (record { block = a; port = port })
  pub is : block ≡ x

-- those that feed activation input k + 1 of b get b
abbrev pub InputTargets : Parts → ℕ → ℕ → ℕ → ℕ → Type 0
InputTargets n b k = SenderGets (feeds_of n b (k + 1)) b

-- those that feed block k + 1 get it
abbrev pub TargetGiven : Parts → ℕ → ℕ → ℕ → Type 0
TargetGiven n k = Upto (InputTargets n (k + 1)) (spec_of n (k + 1)).evtin

-- the blocks that each block's activation outputs feed, by number
abbrev pub AreTargets : Parts → List (List ℕ) → Type 0
AreTargets n ls = (a b : ℕ) → Contains (list_at ls a) b ↔ FeedsSome n a b

-- all links by block
pub record AreFollowers (n : Parts) (l : Followers) : Type 0 where
  pub heirs_long : length l.heirs.items ≡ length n.specs + 1
  pub heirs : AreHeirs n (plain l.heirs.items)
  pub targets_long : length l.targets.items ≡ length n.specs + 1
  pub targets : AreTargets n (plain l.targets.items)

-- ---- what is fed: rows by number of the block and of the port, both counted from 0, which is none

abbrev pub plain_rows : {X : Type 0} → List (Vec (Vec X Global) Global) → List (List (List X))
plain_rows rows = map (λ v. plain v.items) rows

abbrev pub row_at : {X : Type 0} → List (List (List X)) → Feed → List X
row_at rows q = list_at (list_at rows q.block) q.port

-- there is a row for the activation output
pub record HasRow {X : Type 0} (rows : List (List (List X))) (q : Feed) : Type 0 where
  pub block : q.block < length rows
  pub port : q.port < length (list_at rows q.block)

-- rows for each number of a block and each number of one of its activation outputs
pub record HaveRows {X : Type 0} (n : Parts) (rows : List (List (List X))) : Type 0 where
  pub long : length rows ≡ length n.specs + 1
  pub wide : (b : ℕ) → IsBlock n b → length (list_at rows b) ≡ (spec_of n b).evtout + 1

-- the same of the first k blocks, and all are empty
pub record AreEmptyRows {X : Type 0} (n : Parts) (k : ℕ) (rows : List (List (List X))) : Type 0 where
  pub long : length rows ≡ k + 1
  pub wide : (b : ℕ) → 1 ≤ b → b < k + 1 → length (list_at rows b) ≡ (spec_of n b).evtout + 1
  pub empty : (q : Feed) (x : X) → Contains (row_at rows q) x → ⊥

-- by block and input
abbrev pub comes : Fed → Fed → Bool
comes f g = nat_lt f.block g.block || (nat_eq f.block g.block && nat_lt f.input g.input)

-- by block and input, without repeats
abbrev pub AreInOrder : List Fed → Type 0
AreInOrder fs = AllPairs (λ f g. comes f g ≡ true) fs

-- all rows are in order, and what they have comes before f
pub record ComeBefore (f : Fed) (rows : List (List (List Fed))) : Type 0 where
  pub in_order : (q : Feed) → AreInOrder (row_at rows q)
  pub before : (q : Feed) (x : Fed) → Contains (row_at rows q) x → comes x f ≡ true

-- f has been put at the end of the rows of the outputs that get it, and no other row has changed
pub record Appends (gets : Feed → Type 0) (f : Fed) (old new : List (List (List Fed))) : Type 0 where
  pub rest : (q : Feed) → (gets q → ⊥) → row_at new q ≡ row_at old q
  pub in_order : (q : Feed) → AreInOrder (row_at old q) → ((x : Fed) → Contains (row_at old q) x → comes x f ≡ true) → AreInOrder (row_at new q)

-- the rows have got these elements, and no other
pub record Fills {X : Type 0} (more : Feed → X → Type 0) (old new : List (List (List X))) : Type 0 where
  pub long : length new ≡ length old
  pub wide : (b : ℕ) → length (list_at new b) ≡ length (list_at old b)
  pub exactly : (q : Feed) (x : X) → Contains (row_at new q) x ↔ (Contains (row_at old q) x ⊎ more q x)

-- this activation output gets f
pub record RowGets (feed : Feed) (f : Fed) (q : Feed) (x : Fed) : Type 0 where
  pub at : feed ≡ q
  pub is : f ≡ x

-- each of these activation outputs gets f, if its block is wanted
pub record FeedGets (w : List Bool) (fs : List Feed) (f : Fed) (q : Feed) (x : Fed) : Type 0 where
  pub has : Contains fs q
  pub is : f ≡ x
  pub wanted : IsMarked w q.block

-- those that feed activation input k + 1 of b get it
abbrev pub InputFed : Parts → List Bool → ℕ → ℕ → Feed → Fed → Type 0
InputFed n w b k = FeedGets w (feeds_of n b (k + 1)) (record { block = b; input = k + 1 })

-- those that feed block k + 1 get its activation inputs
abbrev pub BlockFed : Parts → List Bool → ℕ → Feed → Fed → Type 0
BlockFed n w k = Upto (InputFed n w (k + 1)) (spec_of n (k + 1)).evtin

-- the first k blocks' activation inputs have been given to the outputs that feed them
pub record AreFilled (n : Parts) (w : List Bool) (k : ℕ) (rows : List (List (List Fed))) : Type 0 where
  pub have_rows : HaveRows n rows
  pub exactly : (q : Feed) (f : Fed) → Contains (row_at rows q) f ↔ Upto (BlockFed n w) k q f

-- the activation inputs that an output feeds
abbrev pub AreFedBy : Parts → Feed → List Fed → Type 0
AreFedBy n q fs = (f : Fed) → Contains fs f ↔ Contains (feeds_of n f.block f.input) q

-- the same of each output of the blocks that are wanted, and nothing of the others
abbrev pub AreRows : Parts → List Bool → List (List (List Fed)) → Type 0
AreRows n w rows = (q : Feed) (f : Fed) → Contains (row_at rows q) f ↔ (IsMarked w q.block × Contains (feeds_of n f.block f.input) q)

pub record AreFedRows (n : Parts) (r : FedRows) : Type 0 where
  pub wanted_long : length r.wanted.items ≡ length n.specs + 1
  pub have_rows : HaveRows n (plain_rows r.fed.items)
  pub rows : AreRows n r.wanted.items (plain_rows r.fed.items)
  pub in_order : (q : Feed) → AreInOrder (row_at (plain_rows r.fed.items) q)
