-- The sources of activation of a net, and the columns of the input file that its sensors read.
use Rattle.std.specs.Prelude.{◌≡◌, ℕ, zero, suc, ◌+◌, List, [], ◌∷◌, ◌++◌, if◌then◌else◌, slice_index_or}
use Rattle.sci_forms.specs.declared.spec.Spec.{Spec}
use Rattle.sci_forms.specs.Form.{is_sync}
use Rattle.sci_forms.specs.Words.{out_type}
use Rattle.sci_net.specs.declared.Source.{Source}
use Rattle.sci_net.specs.declared.Source.TheVariants.{Start, Port}
use Rattle.sci_net.specs.declared.net.Column.{Column}
use Rattle.sci_net.specs.Parts.{Parts, column_of}
use Rattle.sci_forms.specs.Form.{is_sensor}
use Rattle.sci_net.specs.Net.{IsNet}

-- the first p activation outputs of block b
abbrev pub ports_to : ℕ → ℕ → List Source
ports_to b zero = []
ports_to b (suc p) = ports_to b p ++ Port (record { block = b; port = suc p }) ∷ []

-- a synchronous block's activation outputs are no sources
abbrev pub block_sources : ℕ → Spec → List Source
block_sources b s = if is_sync s.kind then [] else ports_to b s.evtout

abbrev pub sources_from : ℕ → List Spec → List Source
sources_from b [] = []
sources_from b (s ∷ ss) = block_sources b s ++ sources_from (b + 1) ss

-- start, and then by block and port each activation output of a block that isn't synchronous
abbrev pub sources_of : Parts → List Source
sources_of n = Start ∷ sources_from 1 n.specs

-- source i; 0 is start
abbrev pub source_of : Parts → ℕ → Source
source_of n i = slice_index_or (sources_of n) i Start

abbrev pub sensor_columns : ℕ → Spec → List Column
sensor_columns b s = if is_sensor s.kind then record { number = column_of s; ty = out_type s; block = b } ∷ [] else []

abbrev pub columns_from : ℕ → List Spec → List Column
columns_from b [] = []
columns_from b (s ∷ ss) = sensor_columns b s ++ columns_from (b + 1) ss

-- one for each sensor, by block
abbrev pub columns_of : Parts → List Column
columns_of n = columns_from 1 n.specs

-- a net that is kept with its list of sources
pub record IsKept (n : Parts) (sources : List Source) : Type 0 where
  pub well_formed : IsNet n
  pub in_order : sources ≡ sources_of n
