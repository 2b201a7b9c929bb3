-- What sorting a table comes to: a loop, or an order in which values can be computed.
use Rattle.std.specs.Prelude.{ℕ, ◌<◌, ◌↔◌, List, length, take, eqb, Contains, slice_index}
use Rattle.std.specs.List.{IsDistinct}
use Rattle.sci_loop.specs.Loops.{IsLoop, HasNoLoop, IsFromLeast}
use Rattle.sci_loop.specs.declared.table.DepTable.{DepTable}
use Rattle.sci_loop.specs.declared.listing.Sorted.{Sorted}
use Rattle.sci_loop.specs.declared.listing.Sorted.TheVariants.{Loop, Order}
use Rattle.sci_loop.specs.Table.{Needs}

-- exactly the members, each once and after all that it needs
pub record IsOrder (t : DepTable) (xs : List ℕ) : Type 0 where
  pub members : (b : ℕ) → Contains xs b ↔ Contains t.members.items b
  pub once : IsDistinct eqb xs
  pub after : (k b : ℕ) → k < length xs → Needs t (slice_index xs k) b → Contains (take k xs) b

-- a loop from its least member, or an order where there is no loop
abbrev pub IsSorted : DepTable → Sorted → Type 0
IsSorted t (Loop v) = IsLoop (Needs t) v.items × IsFromLeast v.items
IsSorted t (Order v) = HasNoLoop (Needs t) × IsOrder t v.items
