-- What activates each block of a net.
use Rattle.std.specs.Prelude.{◌≡◌, ℕ, ◌+◌, ◌<◌, ◌↔◌, List, [], length, Contains, slice_index_or, nat_eq}
use Rattle.std.specs.List.{IsDistinct}
use Rattle.sci_loop.specs.Lists.{list_at}
use Rattle.sci_net.specs.declared.Feed.{Feed}
use Rattle.sci_net.specs.Parts.{Parts, numbered, AreRising}
use Rattle.sci_net.specs.Sources.{sources_of, source_of}
use Rattle.sci_reaction.specs.Links.{SourceFeeds}
use Rattle.sci_reaction.specs.Active.{Reaches, IsAlways, IsSync}
use Rattle.sci_reaction.specs.Depends.{Conditions}
use Rattle.sci_inherit.specs.declared.Fed.{Fed}
use Rattle.sci_inherit.specs.Followers.{AreInOrder}
use Rattle.sci_inherit.specs.Live.{IsLive}

-- By source, in the net's order: the blocks that it activates whatever the values are, and the activation inputs that it feeds. By block,
-- counted from 1: the activation outputs that reach it of synchronous blocks that some source may activate. By number, counted from 0, which is no block: the blocks that
-- a branch of the block reaches.
pub record Origins : Type 0 where
  pub always : List (List ℕ)
  pub feeding : List (List Fed)
  pub branches : List (List Feed)
  pub onward : List (List ℕ)

-- a list for each source, for each block and for each number
pub record HaveOneEach (n : Parts) (o : Origins) : Type 0 where
  pub always : length o.always ≡ length (sources_of n)
  pub feeding : length o.feeding ≡ length (sources_of n)
  pub branches : length o.branches ≡ length n.specs
  pub onward : length o.onward ≡ length n.specs + 1

pub record AreOrigins (n : Parts) (o : Origins) : Type 0 where
  pub one_each : HaveOneEach n o
  pub always_once : (k : ℕ) → k < length (sources_of n) → IsDistinct nat_eq (list_at o.always k)
  pub always_are : (k b : ℕ) → k < length (sources_of n) → Contains (list_at o.always k) b ↔ IsAlways n (source_of n k) b
  pub feeding_are : (k : ℕ) (f : Fed) → k < length (sources_of n) → Contains (list_at o.feeding k) f ↔ SourceFeeds n (source_of n k) f.block f.input
  pub feeding_in_order : (k : ℕ) → k < length (sources_of n) → AreInOrder (list_at o.feeding k)
  pub branches_rise : (b : ℕ) → AreRising (numbered [] o.branches b)
  pub branches_are : (b : ℕ) (q : Feed) → Contains (numbered [] o.branches b) q ↔ (IsLive n q.block × IsSync n q.block × Reaches n q b)
  pub onward_once : (c : ℕ) → IsDistinct nat_eq (slice_index_or o.onward c [])
  pub onward_are : (c b : ℕ) → Contains (slice_index_or o.onward c []) b ↔ Conditions n c b
