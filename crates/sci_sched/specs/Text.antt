-- The text of a schedule.
use Rattle.std.specs.Prelude.{ℕ, ◌++◌, Bool, true, false, List, [], ◌∷◌, codes, decimal}
use Rattle.sci_net.specs.declared.Source.{Source}
use Rattle.sci_net.specs.declared.Source.TheVariants.{Start, Port}
use Rattle.sci_reaction.specs.Schedule.{Guard, Entry}

abbrev pub port_text : ℕ → ℕ → List ℕ
port_text block port = decimal block ++ (codes "." ++ decimal port)

unfoldable pub source_text : Source → List ℕ
source_text Start = codes "source start\n"
source_text (Port q) = codes "source " ++ (port_text q.block q.port ++ codes "\n")

unfoldable pub guard_text : Guard → List ℕ
guard_text g = codes " " ++ port_text g.block g.port

abbrev pub guards_text : List Guard → List ℕ
guards_text [] = []
guards_text (g ∷ gs) = guard_text g ++ guards_text gs

abbrev pub always_text : Bool → List ℕ
always_text true = codes " always"
always_text false = []

abbrev pub block_text : ℕ → Bool → List ℕ
block_text block always = decimal block ++ always_text always

-- a line: the block, whether it is always active, and its guards
unfoldable pub entry_text : Entry → List ℕ
entry_text e = block_text e.block e.always ++ (guards_text e.guards ++ codes "\n")

abbrev pub entries_text : List Entry → List ℕ
entries_text [] = []
entries_text (e ∷ es) = entry_text e ++ entries_text es

-- the line of the source, and those of its entries
unfoldable pub row_text : Source → List Entry → List ℕ
row_text s row = source_text s ++ entries_text row

-- one row for each source
abbrev pub plan_text : List Source → List (List Entry) → List ℕ
plan_text [] rows = []
plan_text (s ∷ ss) [] = []
plan_text (s ∷ ss) (row ∷ rows) = row_text s row ++ plan_text ss rows
