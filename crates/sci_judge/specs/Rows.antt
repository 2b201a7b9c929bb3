-- What a source may do in a reaction.
use Rattle.std.specs.Prelude.{◌≡◌, ℕ, ◌<◌, List, length, Contains, slice_index_or}
use Rattle.sci_net.specs.declared.Feed.{Feed}
use Rattle.sci_net.specs.declared.Source.{Source}
use Rattle.sci_net.specs.declared.Source.TheVariants.{Port}
use Rattle.sci_net.specs.Parts.{Parts}
use Rattle.sci_net.specs.Sources.{sources_of, source_of}
use Rattle.sci_store.specs.Frame.{Fixed}
use Rattle.sci_store.specs.Rows.{IsRowOf}
use Rattle.sci_judge.specs.declared.rows.SourcePlan.{SourcePlan}
use Rattle.sci_judge.specs.Programming.{AreSourcesOf}

-- what a source may do in a reaction: its row, and the activation outputs with delays of its blocks
pub record IsPlanOf (f : Fixed) (s : Source) (p : SourcePlan) : Type 0 where
  pub row : IsRowOf f s p.row
  pub sources : AreSourcesOf f.net p.row.blocks p.sources.items

-- one for each source, in their order
pub record ArePlans (f : Fixed) (plans : List SourcePlan) : Type 0 where
  pub enough : length plans ≡ length (sources_of f.net)
  pub each : (k : ℕ) (d : SourcePlan) → k < length plans → IsPlanOf f (source_of f.net k) (slice_index_or plans k d)

-- the source at this place is an activation output of one of these blocks
pub record IsOfFound (n : Parts) (found : List ℕ) (k : ℕ) : Type 0 where
  pub output : Feed
  pub is : source_of n k ≡ Port output
  pub found_is : Contains found output.block
