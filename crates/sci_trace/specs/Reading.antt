-- What the bytes of an input file are read as: its columns, or the first rule that they break.
use Rattle.std.specs.Prelude.{ℕ, ◌+◌, max, ℤ, pos, List, [], ◌∷◌, length, not, nat_lt, if◌then◌else◌, Option, Some, None, option_map, option_and_then, slice_index_or, Result, Ok, Err}
use Rattle.std.specs.List.{position}
use Rattle.std.specs.Str.{is_utf8}
use Rattle.serde_json.specs.Data.{Data, Items, no_items, item}
use Rattle.serde_json.specs.Find.{as_array}
use Rattle.serde_json.specs.Read.{read}
use Rattle.sci_base.specs.declared.refusal.Rule.TheVariants.{InputShape, InputRange}
use Rattle.sci_base.specs.Fit.{in_range}
use Rattle.sci_base.specs.Plain.{Violation, of_the_whole}
use Rattle.sci_base.specs.Outcome.{Outcome, ◌>>=◌}
use Rattle.sci_json.specs.Field.{wholes}
use Rattle.sci_base.specs.declared.stop.Stop.{Stop}
use Rattle.sci_base.specs.Stops.{Answers}
use Rattle.sci_trace.specs.Columns.{Needed, column_at}

-- a list of whole numbers, those for which `as_i64` answers Some
abbrev pub whole_list : Data → Option (List ℤ)
whole_list d = option_and_then wholes (as_array d)

abbrev pub whole_lists : Items → Option (List (List ℤ))
whole_lists no_items = Some []
whole_lists (item d ds) = option_and_then (λ c. option_map (λ cs. c ∷ cs) (whole_lists ds)) (whole_list d)

-- a list of lists of whole numbers
abbrev pub columns_of : Data → Option (List (List ℤ))
columns_of d = option_and_then whole_lists (as_array d)

-- the columns that the bytes are, which are text first and a JSON value then
abbrev pub columns_in : List ℕ → Option (List (List ℤ))
columns_in bytes = if is_utf8 bytes then option_and_then columns_of (read bytes) else None

-- the greatest column that is needed
abbrev pub greatest : List Needed → ℕ
greatest [] = 0
greatest (n ∷ ns) = max n.column (greatest ns)

-- there are fewer columns than that
abbrev pub too_few : ℕ → ℕ → Violation
too_few needed found = record { rule = InputShape; place = []; detail = pos needed ∷ pos found ∷ [] }

-- value i of a column, counted from 0, is outside its type
abbrev pub outside_at : Needed → List ℤ → ℕ → Violation
outside_at n values i = record { rule = InputRange; place = n.place; detail = pos n.column ∷ pos (i + 1) ∷ slice_index_or values i (pos 0) ∷ [] }

-- the first value of a column that is outside its type
abbrev pub outside : Needed → List ℤ → Option Violation
outside n values = option_map (outside_at n values) (position (λ v. not (in_range n.ty v)) values)

abbrev pub or_else : Option Violation → Option Violation → Option Violation
or_else (Some v) o = Some v
or_else None o = o

-- the first value that is outside its type, by the order of what is needed and then by position
abbrev pub first_outside : List Needed → List (List ℤ) → Option Violation
first_outside [] columns = None
first_outside (n ∷ ns) columns = or_else (outside n (column_at columns n.column)) (first_outside ns columns)

abbrev pub unless : {A : Type 0} → Option Violation → A → Outcome A
unless None a = Ok a
unless (Some v) a = Err v

abbrev pub shaped : {A : Type 0} → Option A → Outcome A
shaped None = Err (of_the_whole InputShape)
shaped (Some a) = Ok a

-- the columns, where they are enough and each value that is needed is in its type
abbrev pub judge_columns : List Needed → List (List ℤ) → Outcome (List (List ℤ))
judge_columns needs columns =
    if nat_lt (length columns) (greatest needs) then Err (too_few (greatest needs) (length columns)) else unless (first_outside needs columns) columns

-- the same of a JSON value
abbrev pub judge_value : List Needed → Data → Outcome (List (List ℤ))
judge_value needs d = shaped (columns_of d) >>= judge_columns needs

-- the columns that the bytes are, or the first rule that they break
unfoldable pub judge : List ℕ → List Needed → Outcome (List (List ℤ))
judge bytes needs = shaped (columns_in bytes) >>= judge_columns needs

-- the answer is this outcome; want of memory may come at any time
abbrev pub IsAnswer : Outcome (List (List ℤ)) → Result (List (List ℤ)) Stop → Type 0
IsAnswer = Answers (λ columns. columns)

-- what a reader of these bytes answers
abbrev pub IsRead : List ℕ → List Needed → Result (List (List ℤ)) Stop → Type 0
IsRead bytes needs result = IsAnswer (judge bytes needs) result
