use Rattle.std.proofs.Common.{ℕ, pos, negsuc, List, [], ◌∷◌, ◌++◌, true, false, refl}
use Rattle.sci_reaction.specs.Schedule.{Entry}
use Rattle.sci_reaction.specs.Equations.{branch_on, answer}
use Rattle.sci_base.specs.declared.observation.EndWord.TheVariants.{Events}
use Rattle.sci_run.specs.Run.{IsRun}
use Rattle.sci_run.specs.Finish.{ByEnd, FinishesWith}
use Rattle.sci_run.specs.Worked.{count_by_five, no_blocks, twice_at_seven, put_off, put_last, left_alone, sensed, sensed_at_even, divided, fed_back, shifted, halting, delayed, branched, taken_apart, halting_once, halting_at_start, put_off_at_start, without_delay, both_at_three, sensed_and_halting, registered, selected, both_activated, selected_by_branch, counts_seen, until_five_seen, until_four_seen, no_event_allowed_seen, nothing_there_seen, two_of_one_date_seen, replaced_seen, replaced_last_seen, not_replaced_seen, input_ends_seen, sensor_waits_seen, no_quotient_seen, inherited_seen, shifts_seen, halts_seen, two_allowed_seen, halts_at_start_seen, put_off_at_start_seen, no_delay_seen, by_block_seen, stops_at_halt_seen, registered_seen, selected_seen, both_activated_seen, selected_by_branch_seen, CountsLast, SensorWaitsLast, delays_seen, branches_seen, taken_apart_seen}
use Rattle.sci_run.proofs.Slow.{is_run, finishes}
use Rattle.sci_run.proofs.worked_runs.Goals as goal

-- the blocks in an order in which their values can be found; of their depth nothing is asked
abbrev row : List ℕ → List Entry
row [] = []
row (b ∷ bs) = record { block = b; depth = 0; always = true; mask = 0; guards = [] } ∷ row bs

-- the same where a branch activates the block
abbrev guarded : ℕ → ℕ → ℕ → Entry
guarded b c p = record { block = b; depth = 0; always = false; mask = 0; guards = record { block = c; port = p; mask = 0 } ∷ [] }

-- for start, and for each event block
abbrev counting : List (List Entry)
counting = row (2 ∷ 3 ∷ []) ∷ row (1 ∷ 4 ∷ 3 ∷ []) ∷ []

counts : IsRun count_by_five [] 10 3 counts_seen
unfolding branch_on answer
counts = is_run count_by_five [] counting 10 3 counts_seen refl

until_five : IsRun count_by_five [] 5 10 until_five_seen
unfolding branch_on answer
until_five = is_run count_by_five [] counting 5 10 until_five_seen refl

until_four : IsRun count_by_five [] 4 10 until_four_seen
unfolding branch_on answer
until_four = is_run count_by_five [] counting 4 10 until_four_seen refl

no_event_allowed : IsRun count_by_five [] 100 0 no_event_allowed_seen
unfolding branch_on answer
no_event_allowed = is_run count_by_five [] counting 100 0 no_event_allowed_seen refl

nothing_there : IsRun no_blocks [] 0 10 nothing_there_seen
unfolding branch_on answer
nothing_there = is_run no_blocks [] [] 0 10 nothing_there_seen refl

two_of_one_date : IsRun twice_at_seven [] 100 10 two_of_one_date_seen
unfolding branch_on answer
two_of_one_date = is_run twice_at_seven [] (row (3 ∷ []) ∷ row (4 ∷ []) ∷ row (4 ∷ []) ∷ []) 100 10 two_of_one_date_seen refl

replaced : IsRun put_off [] 100 4 replaced_seen
unfolding branch_on answer
replaced = is_run put_off [] (row [] ∷ row (1 ∷ 2 ∷ []) ∷ []) 100 4 replaced_seen refl

replaced_last : IsRun put_last [] 5 10 replaced_last_seen
unfolding branch_on answer
replaced_last = is_run put_last [] (row [] ∷ row (2 ∷ []) ∷ []) 5 10 replaced_last_seen refl

not_replaced : IsRun left_alone [] 100 10 not_replaced_seen
unfolding branch_on answer
not_replaced = is_run left_alone [] (row [] ∷ row (2 ∷ []) ∷ []) 100 10 not_replaced_seen refl

input_ends : IsRun sensed ((pos 7 ∷ pos 8 ∷ []) ∷ []) 10 5 input_ends_seen
unfolding branch_on answer
input_ends = is_run sensed ((pos 7 ∷ pos 8 ∷ []) ∷ []) (row [] ∷ row (1 ∷ 2 ∷ []) ∷ []) 10 5 input_ends_seen refl

sensor_waits : IsRun sensed_at_even ((pos 7 ∷ pos 8 ∷ []) ∷ []) 10 3 sensor_waits_seen
unfolding branch_on answer
sensor_waits = is_run sensed_at_even ((pos 7 ∷ pos 8 ∷ []) ∷ []) (row [] ∷ row (1 ∷ 3 ∷ []) ∷ row (2 ∷ []) ∷ []) 10 3 sensor_waits_seen refl

no_quotient : IsRun divided [] 10 10 no_quotient_seen
unfolding branch_on answer
no_quotient = is_run divided [] (row (1 ∷ 2 ∷ 3 ∷ []) ∷ []) 10 10 no_quotient_seen refl

inherited : IsRun fed_back [] 10 3 inherited_seen
unfolding branch_on answer
inherited = is_run fed_back [] (row [] ∷ row (1 ∷ 2 ∷ 4 ∷ 3 ∷ []) ∷ []) 10 3 inherited_seen refl

shifts : IsRun shifted [] 10 3 shifts_seen
unfolding branch_on answer
shifts = is_run shifted [] (row [] ∷ row (1 ∷ 2 ∷ 3 ∷ 4 ∷ []) ∷ []) 10 3 shifts_seen refl

halts : IsRun halting [] 10 1 halts_seen
unfolding branch_on answer
halts = is_run halting [] (row [] ∷ row (1 ∷ 2 ∷ []) ∷ []) 10 1 halts_seen refl

delays : IsRun delayed [] 100 4 delays_seen
unfolding branch_on answer
delays = is_run delayed [] (row [] ∷ row (1 ∷ 2 ∷ 3 ∷ []) ∷ row [] ∷ []) 100 4 delays_seen refl

branches : IsRun branched ((pos 5 ∷ negsuc 0 ∷ pos 0 ∷ []) ∷ []) 10 3 branches_seen
unfolding branch_on answer
branches = is_run branched ((pos 5 ∷ negsuc 0 ∷ pos 0 ∷ []) ∷ []) (row [] ∷ (row (1 ∷ 2 ∷ 3 ∷ []) ++ guarded 4 3 1 ∷ guarded 5 3 2 ∷ []) ∷ []) 10 3 branches_seen refl

elements : IsRun taken_apart [] 10 10 taken_apart_seen
unfolding branch_on answer
elements = is_run taken_apart [] (row (1 ∷ 2 ∷ []) ∷ []) 10 10 taken_apart_seen refl

two_allowed : IsRun twice_at_seven [] 100 2 two_allowed_seen
unfolding branch_on answer
two_allowed = is_run twice_at_seven [] (row (3 ∷ []) ∷ row (4 ∷ []) ∷ row (4 ∷ []) ∷ []) 100 2 two_allowed_seen refl

halts_at_until : IsRun halting [] 0 10 halts_seen
unfolding branch_on answer
halts_at_until = is_run halting [] (row [] ∷ row (1 ∷ 2 ∷ []) ∷ []) 0 10 halts_seen refl

halts_last : IsRun halting_once [] 10 5 halts_seen
unfolding branch_on answer
halts_last = is_run halting_once [] (row [] ∷ row (2 ∷ []) ∷ []) 10 5 halts_seen refl

halts_behind_start : IsRun halting_at_start [] 10 0 halts_at_start_seen
unfolding branch_on answer
halts_behind_start = is_run halting_at_start [] ((row (1 ∷ 2 ∷ []) ++ guarded 3 2 1 ∷ []) ∷ []) 10 0 halts_at_start_seen refl

programmed_before_start : IsRun put_off_at_start [] 10 5 put_off_at_start_seen
unfolding branch_on answer
programmed_before_start = is_run put_off_at_start [] ((row (1 ∷ 2 ∷ []) ++ guarded 3 2 1 ∷ []) ∷ row [] ∷ []) 10 5 put_off_at_start_seen refl

no_delay : IsRun without_delay [] 10 3 no_delay_seen
unfolding branch_on answer
no_delay = is_run without_delay [] (row [] ∷ row (1 ∷ []) ∷ []) 10 3 no_delay_seen refl

by_block : IsRun both_at_three [] 10 10 by_block_seen
unfolding branch_on answer
by_block = is_run both_at_three [] (row [] ∷ row (2 ∷ 3 ∷ []) ∷ row [] ∷ row [] ∷ []) 10 10 by_block_seen refl

stops_at_halt : IsRun sensed_and_halting ([] ∷ []) 10 10 stops_at_halt_seen
unfolding branch_on answer
stops_at_halt = is_run sensed_and_halting ([] ∷ []) (row [] ∷ row (2 ∷ 3 ∷ []) ∷ []) 10 10 stops_at_halt_seen refl

registers : IsRun registered [] 10 3 registered_seen
unfolding branch_on answer
registers = is_run registered [] (row [] ∷ row (1 ∷ 2 ∷ 3 ∷ []) ∷ []) 10 3 registered_seen refl

selects : IsRun selected [] 10 4 selected_seen
unfolding branch_on answer
selects = is_run selected [] (row [] ∷ (row (1 ∷ 2 ∷ 3 ∷ []) ++ guarded 4 3 1 ∷ guarded 5 3 2 ∷ []) ∷ []) 10 4 selected_seen refl

-- with a mask
masked : ℕ → ℕ → Entry
masked b mask = record { block = b; depth = 0; always = true; mask = mask; guards = [] }

masks : IsRun both_activated [] 10 10 both_activated_seen
unfolding branch_on answer masked
masks = is_run both_activated [] (row [] ∷ (masked 3 3 ∷ []) ∷ (masked 3 2 ∷ []) ∷ []) 10 10 both_activated_seen refl

masks_of_branches : IsRun selected_by_branch ((pos 5 ∷ negsuc 0 ∷ []) ∷ []) 10 2 selected_by_branch_seen
unfolding branch_on answer
masks_of_branches =
    is_run selected_by_branch ((pos 5 ∷ negsuc 0 ∷ []) ∷ [])
    (row (4 ∷ 5 ∷ [])
    ∷ (row (1 ∷ 2 ∷ 3 ∷ [])
    ++ record { block = 6; depth = 0; always = false; mask = 0; guards = record { block = 3; port = 1; mask = 1 } ∷ record { block = 3; port = 2; mask = 2 } ∷ [] } ∷ [])
    ∷ [])
    10 2 selected_by_branch_seen refl

counts_last : FinishesWith count_by_five [] 10 3 (ByEnd Events) counts_seen CountsLast
unfolding branch_on answer
counts_last = finishes count_by_five [] counting 10 3 3 Events counts_seen CountsLast (refl, refl, (refl, refl, refl, refl, refl))

sensor_waits_last : FinishesWith sensed_at_even ((pos 7 ∷ pos 8 ∷ []) ∷ []) 10 3 (ByEnd Events) sensor_waits_seen SensorWaitsLast
unfolding branch_on answer
sensor_waits_last =
    finishes sensed_at_even ((pos 7 ∷ pos 8 ∷ []) ∷ []) (row [] ∷ row (1 ∷ 3 ∷ []) ∷ row (2 ∷ []) ∷ []) 10 3 3 Events sensor_waits_seen SensorWaitsLast
    (refl, refl, (refl, refl, refl, refl, refl, refl))

pub returns : goal.returns
returns c = record {
  counts = counts;
  until_five = until_five;
  until_four = until_four;
  no_event_allowed = no_event_allowed;
  nothing_there = nothing_there;
  two_of_one_date = two_of_one_date;
  replaced = replaced;
  replaced_last = replaced_last;
  not_replaced = not_replaced;
  input_ends = input_ends;
  sensor_waits = sensor_waits;
  no_quotient = no_quotient;
  inherited = inherited;
  shifts = shifts;
  halts = halts;
  delays = delays;
  branches = branches;
  elements = elements;
  two_allowed = two_allowed;
  halts_at_until = halts_at_until;
  halts_last = halts_last;
  halts_behind_start = halts_behind_start;
  programmed_before_start = programmed_before_start;
  no_delay = no_delay;
  by_block = by_block;
  stops_at_halt = stops_at_halt;
  registers = registers;
  selects = selects;
  masks = masks;
  masks_of_branches = masks_of_branches;
  counts_last = counts_last;
  sensor_waits_last = sensor_waits_last;
}
