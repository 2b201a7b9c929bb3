-- The text of what is saved of a run, line by line.
use Rattle.std.specs.Prelude.{ℕ, ℤ, pos, ◌+◌, ◌++◌, List, [], ◌∷◌, codes, if◌then◌else◌}
use Rattle.sci_forms.specs.declared.spec.Spec.{Spec}
use Rattle.sci_net.specs.declared.Source.{Source}
use Rattle.sci_net.specs.declared.Source.TheVariants.{Start, Port}
use Rattle.sci_net.specs.Parts.{Parts}
use Rattle.sci_forms.specs.Form.{is_sensor}
use Rattle.sci_net.specs.Sources.{source_of}
use Rattle.sci_trace.specs.Lines.{numbers}
use Rattle.sci_save.specs.Saved.{Saved}

-- the line of a block that has any numbers: a word, the block, the numbers
abbrev pub row_text : List ℕ → ℕ → List ℤ → List ℕ
row_text word b [] = []
row_text word b (v ∷ vs) = word ++ numbers (pos b ∷ v ∷ vs)

-- of all blocks, counted from b on
abbrev pub rows_text : List ℕ → ℕ → List (List ℤ) → List ℕ
rows_text word b [] = []
rows_text word b (vs ∷ rows) = row_text word b vs ++ rows_text word (b + 1) rows

-- of a sensor how many values it has taken, of any other block nothing
abbrev pub cursor_row : Spec → ℕ → List ℤ
cursor_row s cursor = if is_sensor s.kind then pos cursor ∷ [] else []

abbrev pub cursor_rows : List Spec → List ℕ → List (List ℤ)
cursor_rows [] cursors = []
cursor_rows (s ∷ ss) [] = []
cursor_rows (s ∷ ss) (c ∷ cs) = cursor_row s c ∷ cursor_rows ss cs

abbrev pub port_numbers : Source → List ℤ
port_numbers Start = []
port_numbers (Port q) = pos q.block ∷ pos q.port ∷ []

-- a pending event: its date, and block and port of its source
abbrev pub event_text : Parts → ℕ × ℕ → List ℕ
event_text n d = codes "pend" ++ numbers (pos d.0 ∷ port_numbers (source_of n d.1))

abbrev pub events_text : Parts → List (ℕ × ℕ) → List ℕ
events_text n [] = []
events_text n (d ∷ ds) = event_text n d ++ events_text n ds

-- the version of the format, then how many events have fired and the date of the last reaction
abbrev pub head_text : Saved → List ℕ
head_text m = codes "save 1\nat" ++ numbers (pos m.fired ∷ pos m.now ∷ [])

-- a line for each block with a state, each with regular outputs, each sensor
abbrev pub blocks_text : Parts → Saved → List ℕ
blocks_text n m =
    rows_text (codes "state") 1 m.states ++ (rows_text (codes "held") 1 m.held ++ rows_text (codes "cursor") 1 (cursor_rows n.specs m.cursors))

-- and for each pending event, and the end
abbrev pub lines_text : Parts → Saved → List ℕ
lines_text n m = blocks_text n m ++ (events_text n m.pending ++ codes "done\n")

unfoldable pub saved_text : Parts → Saved → List ℕ
saved_text n m = head_text m ++ lines_text n m
