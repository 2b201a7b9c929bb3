-- What is told of a table as lists, with what is marked of the rows.
use Rattle.std.specs.Prelude.{ℕ, List, [], pos, Bool, if◌then◌else◌}
use Rattle.sci_base.specs.declared.observation.Obs.TheVariants.{Stop}
use Rattle.sci_base.specs.declared.observation.StopWord.{StopWord}
use Rattle.sci_net.specs.Parts.{Parts}
use Rattle.sci_trace.specs.Lines.{line}
use Rattle.sci_ranges.specs.Table.{Table}
use Rattle.sci_ranges_text.specs.Text.{table_text}
use Rattle.sci_ranges_rows.specs.Marks.{Marks}
use Rattle.sci_ranges_pass.specs.Pass.{is_possible}
use Rattle.sci_ranges_pass.specs.Ranges.{Ranges, table_of}

-- the text doesn't ask which branches are dead
abbrev pub plain_table : Parts → Ranges → Table
plain_table n r = table_of n [] r

-- the line of a stop, where it is listed
abbrev pub listed_line : ℕ → StopWord → Bool → List ℕ
listed_line b word listed = if listed then line (Stop word (pos b) (pos 0)) else []

abbrev pub told : Parts → Marks → Ranges → List ℕ
told n m r = table_text n (table_of n m.dead r) (is_possible m)
