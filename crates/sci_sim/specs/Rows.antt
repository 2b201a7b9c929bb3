-- The rows of all sources.
use Rattle.std.specs.Prelude.{◌≡◌, ℕ, ◌<◌, List, length, slice_index_or}
use Rattle.sci_net.specs.Sources.{sources_of, source_of}
use Rattle.sci_store.specs.Frame.{Fixed}
use Rattle.sci_store.specs.Rows.{ReadyRow, no_row, IsRowOf}

-- the row of a source, by its place
abbrev pub row_in : List ReadyRow → ℕ → ReadyRow
row_in rows k = slice_index_or rows k no_row

-- the rows of all sources of a net, in their order
pub record AreRowsOf (f : Fixed) (rows : List ReadyRow) : Type 0 where
  pub enough : length rows ≡ length (sources_of f.net)
  pub each : (k : ℕ) → k < length rows → IsRowOf f (source_of f.net k) (row_in rows k)
