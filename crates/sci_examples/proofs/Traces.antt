-- The text of a trace and the columns of an input file, worked out by hand.
use Rattle.std.proofs.Common.{◌≡◌, ℕ, true, false, ℤ, pos, negsuc, List, [], ◌∷◌, codes, Some, None, Ok, Err, refl}
use Rattle.std.specs.Fmt.{digits}
use Rattle.sci_base.specs.declared.observation.Obs.TheVariants.{Start, Event, Val, End, Stop}
use Rattle.sci_base.specs.declared.observation.EndWord.TheVariants.{Halt, Events, Empty, Until}
use Rattle.sci_base.specs.declared.observation.StopWord.TheVariants.{Zero}
use Rattle.sci_base.specs.declared.Ty.{Ty}
use Rattle.sci_base.specs.declared.Ty.TheVariants.{I32, I16, I8}
use Rattle.sci_base.specs.declared.refusal.Rule.TheVariants.{InputShape, InputRange}
use Rattle.sci_trace.specs.Lines.{line, text, stops}
use Rattle.sci_trace.specs.Columns.{Needed, column_at}
use Rattle.sci_trace.specs.Reading.{greatest, outside, first_outside, judge_columns}

-- ---- lines

start_line : line Start ≡ codes "start\n"
unfolding line
start_line = refl

event_line : line (Event (pos 15) (pos 1) (pos 2)) ≡ codes "event 15 1 2\n"
unfolding line digits
event_line = refl

value_line : line (Val (pos 3) (pos 1) (pos 2) (negsuc 6)) ≡ codes "val 3 1 2 -7\n"
unfolding line digits
value_line = refl

empty_line : line (End Empty) ≡ codes "end empty\n"
unfolding line
empty_line = refl

until_line : line (End Until) ≡ codes "end until\n"
unfolding line
until_line = refl

stop_line : line (Stop Zero (pos 3) (pos 0)) ≡ codes "stop zero 3\n"
unfolding line digits
stop_line = refl

two_lines : text (Start ∷ End Halt ∷ []) ≡ codes "start\nend halt\n"
unfolding line
two_lines = refl

-- the last observation says whether the run stopped
stopped : stops (Start ∷ Stop Zero (pos 3) (pos 0) ∷ []) ≡ true
stopped = refl

ended : stops (Start ∷ End Events ∷ []) ≡ false
ended = refl

-- ---- columns: 1, 300, 400 and 900

abbrev columns : List (List ℤ)
columns = (pos 1 ∷ pos 300 ∷ pos 400 ∷ []) ∷ (pos 900 ∷ []) ∷ []

-- of a sensor at place 5
abbrev need : ℕ → Ty → Needed
need column ty = record { column = column; ty = ty; place = 5 ∷ [] }

first_column : column_at columns 1 ≡ pos 1 ∷ pos 300 ∷ pos 400 ∷ []
first_column = refl

third_column : column_at columns 3 ≡ []
third_column = refl

greatest_needed : greatest (need 2 I32 ∷ need 5 I32 ∷ need 3 I32 ∷ []) ≡ 5
greatest_needed = refl

-- the second value, which is 300, is the first outside
first_told : outside (need 1 I8) (pos 1 ∷ pos 300 ∷ pos 400 ∷ []) ≡ Some (record { rule = InputRange; place = 5 ∷ []; detail = pos 1 ∷ pos 2 ∷ pos 300 ∷ [] })
first_told = refl

none_outside : first_outside (need 1 I32 ∷ need 2 I16 ∷ []) columns ≡ None
none_outside = refl

-- by what is needed first, and not by column
first_needed : first_outside (need 2 I8 ∷ need 1 I8 ∷ []) columns ≡ Some (record { rule = InputRange; place = 5 ∷ []; detail = pos 2 ∷ pos 1 ∷ pos 900 ∷ [] })
first_needed = refl

enough : judge_columns (need 2 I16 ∷ []) columns ≡ Ok columns
enough = refl

too_few : judge_columns (need 3 I8 ∷ []) columns ≡ Err (record { rule = InputShape; place = []; detail = pos 3 ∷ pos 2 ∷ [] })
too_few = refl
