-- What the bytes of a diagram are read as: a diagram, or the first rule that they break.
use Rattle.std.specs.Prelude.{◌≡◌, ℕ, List, if◌then◌else◌, Option, Some, None, Result, Ok, Err}
use Rattle.std.specs.Str.{is_utf8}
use Rattle.serde_json.specs.Data.{Data}
use Rattle.serde_json.specs.Read.{read}
use Rattle.sci_base.specs.declared.refusal.Rule.TheVariants.{NotJson}
use Rattle.sci_base.specs.Plain.{Violation, of_the_whole}
use Rattle.sci_base.specs.Outcome.{Outcome, ◌>>=◌}
use Rattle.sci_diagram.specs.declared.diagram.Diagram.{Diagram}
use Rattle.sci_base.specs.declared.stop.Stop.{Stop}
use Rattle.sci_base.specs.Stops.{Answers}
use Rattle.sci_diagram.specs.Count.{counted}
use Rattle.sci_diagram.specs.Objects.{Objects, diagram_view}
use Rattle.sci_diagram.specs.Tree.{tree}

-- the JSON value that the bytes are, which are text first
abbrev pub value_of : List ℕ → Option Data
value_of bytes = if is_utf8 bytes then read bytes else None

abbrev pub judge_value : Option Data → Outcome Objects
judge_value None = Err (of_the_whole NotJson)
judge_value (Some d) = tree d >>= counted

-- the diagram that the bytes are, or the first rule that they break
unfoldable pub judge : List ℕ → Outcome Objects
judge bytes = judge_value (value_of bytes)

-- the bytes are this diagram
abbrev pub Accepts : List ℕ → Objects → Type 0
Accepts bytes d = judge bytes ≡ Ok d

-- the bytes are no diagram, by this violation
abbrev pub Breaks : List ℕ → Violation → Type 0
Breaks bytes v = judge bytes ≡ Err v

-- the answer is this outcome; want of memory may come at any time
abbrev pub IsAnswer : Outcome Objects → Result Diagram Stop → Type 0
IsAnswer = Answers diagram_view

-- what a reader of these bytes answers
abbrev pub IsRead : List ℕ → Result Diagram Stop → Type 0
IsRead bytes result = IsAnswer (judge bytes) result
