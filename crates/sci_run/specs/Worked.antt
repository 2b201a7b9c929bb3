-- Runs of small nets, worked out by hand.
use Rattle.std.specs.Prelude.{◌≡◌, ℕ, ℤ, pos, negsuc, List, [], ◌∷◌, true, false}
use Rattle.sci_base.specs.declared.observation.Obs.{Obs}
use Rattle.sci_base.specs.declared.observation.Obs.TheVariants.{Start, Event, Val, End, Stop}
use Rattle.sci_base.specs.declared.observation.EndWord.TheVariants.{Halt, Events, Empty, Until}
use Rattle.sci_base.specs.declared.observation.StopWord.TheVariants.{Zero, Input}
use Rattle.sci_forms.specs.declared.Kind.TheVariants.{Const, Summation, Product, Demux, Dollar, ModuloCount, Register, Select, AndLog, Sensor, EvtDly, EvtVarDly, IfThEl, ESelect, Halt as HaltKind}
use Rattle.sci_forms.specs.declared.ports.Port.{Port}
use Rattle.sci_forms.specs.declared.spec.Spec.{Spec}
use Rattle.sci_net.specs.declared.Feed.{Feed}
use Rattle.sci_net.specs.declared.Wire.{Wire}
use Rattle.sci_net.specs.Parts.{Parts}
use Rattle.sci_reaction.specs.Worked.{scalar, wire, feed, constant, sum, condition, timer}
use Rattle.sci_run.specs.Run.{State, IsRun}
use Rattle.sci_run.specs.Counts.{activations_of_kind, all_activations}
use Rattle.sci_run.specs.Finish.{ByEnd, FinishesWith}

-- ---- blocks, with scalars of int32

-- an event block with this delay, which fires first at this date
abbrev pub event_block : ℤ → ℤ → Spec
event_block delay_block firing =
    record { kind = EvtDly; params = delay_block ∷ []; state = []; firing = firing ∷ []; ins = []; outs = []; evtin = 1; evtout = 1; feed = [] }

-- an event block whose delay is its input
abbrev pub delayed_by_input : Spec
delayed_by_input =
    record { kind = EvtVarDly; params = []; state = []; firing = negsuc 0 ∷ []; ins = scalar ∷ []; outs = []; evtin = 1; evtout = 1; feed = false ∷ [] }

-- a delay by one activation, which holds this first; evtin is 1 or, where it inherits, 0
abbrev pub delay_block : ℤ → ℕ → Spec
delay_block first evtin =
    record { kind = Dollar; params = []; state = first ∷ []; firing = []; ins = scalar ∷ []; outs = scalar ∷ []; evtin = evtin; evtout = 0; feed = false ∷ [] }

-- counts from a number up to 9
abbrev pub counter_from : ℤ → Spec
counter_from first =
    record { kind = ModuloCount; params = pos 10 ∷ []; state = first ∷ []; firing = []; ins = []; outs = scalar ∷ []; evtin = 1; evtout = 0; feed = [] }

abbrev pub sensor : Spec
sensor = record { kind = Sensor; params = pos 1 ∷ []; state = []; firing = []; ins = []; outs = scalar ∷ []; evtin = 1; evtout = 0; feed = [] }

abbrev pub quotient : Spec
quotient =
    record { kind = Product; params = pos 0 ∷ negsuc 0 ∷ []; state = []; firing = []; ins = scalar ∷ scalar ∷ []; outs = scalar ∷ []; evtin = 0; evtout = 0; feed = true ∷ true ∷ [] }

abbrev pub halt_block : Spec
halt_block = record { kind = HaltKind; params = []; state = []; firing = []; ins = []; outs = []; evtin = 1; evtout = 0; feed = [] }

-- a condition that inherits its activation
abbrev pub inheriting_condition : Spec
inheriting_condition = record { kind = IfThEl; params = []; state = []; firing = []; ins = scalar ∷ []; outs = []; evtin = 0; evtout = 2; feed = true ∷ [] }

-- one of two branches, by the number of its input
abbrev pub selector : Spec
selector = record { kind = ESelect; params = []; state = []; firing = []; ins = scalar ∷ []; outs = []; evtin = 1; evtout = 2; feed = true ∷ [] }

-- a delay by two activations
abbrev pub register : ℤ → ℤ → Spec
register first second =
    record { kind = Register; params = []; state = first ∷ second ∷ []; firing = []; ins = scalar ∷ []; outs = scalar ∷ []; evtin = 1; evtout = 0; feed = false ∷ [] }

-- 1 where both of its activation inputs are activated, and else -1
abbrev pub and_logic : Spec
and_logic = record { kind = AndLog; params = []; state = []; firing = []; ins = []; outs = scalar ∷ []; evtin = 2; evtout = 0; feed = [] }

-- of two inputs the one whose activation input is activated
abbrev pub selection : Spec
selection =
    record { kind = Select; params = []; state = []; firing = []; ins = scalar ∷ scalar ∷ []; outs = scalar ∷ []; evtin = 2; evtout = 0; feed = true ∷ true ∷ [] }

abbrev pub column : ℤ → Port
column rows = record { rows = rows; cols = pos 1; ty = pos 3 }

-- ---- observations

abbrev pub event : ℕ → ℕ → Obs
event date b = Event (pos date) (pos b) (pos 1)

abbrev pub value : ℕ → ℤ → Obs
value b v = Val (pos b) (pos 1) (pos 1) v

-- ---- nets: where a block has an activation input, the event blocks that feed it

abbrev pub fed : List ℕ → List (List Feed)
fed [] = [] ∷ []
fed (b ∷ []) = (feed b ∷ []) ∷ []
fed (b ∷ (c ∷ cs)) = (feed b ∷ feed c ∷ []) ∷ []

abbrev pub net_of : List Spec → List (List Wire) → List (List (List Feed)) → Parts
net_of specs wires feeds = record { specs = specs; paths = []; wires = wires; feeds = feeds }

-- 1 fires every 5 ticks; 2 the constant 1; 3 the sum of 2 and 4; 4 a delay of 3, activated by 1
abbrev pub count_by_five : Parts
count_by_five =
    net_of (event_block (pos 5) (pos 0) ∷ constant (pos 1) ∷ sum (pos 0) 0 ∷ delay_block (pos 0) 1 ∷ []) ([] ∷ [] ∷ (wire 2 ∷ wire 4 ∷ []) ∷ (wire 3 ∷ []) ∷ [])
    (fed (1 ∷ []) ∷ [] ∷ [] ∷ fed (1 ∷ []) ∷ [])

abbrev pub no_blocks : Parts
no_blocks = net_of [] [] []

-- 1 and 2 fire once, at date 7; 3 the constant 4; 4 a delay of it, activated by both
abbrev pub twice_at_seven : Parts
twice_at_seven =
    net_of (event_block (negsuc 0) (pos 7) ∷ event_block (negsuc 0) (pos 7) ∷ constant (pos 4) ∷ delay_block (pos 9) 1 ∷ []) ([] ∷ [] ∷ [] ∷ (wire 3 ∷ []) ∷ [])
    (fed [] ∷ fed [] ∷ [] ∷ fed (1 ∷ 2 ∷ []) ∷ [])

-- 1 fires every 2 ticks and programs 2 with a delay of 5 each time
abbrev pub put_off : Parts
put_off = net_of (event_block (pos 2) (pos 0) ∷ event_block (pos 5) (negsuc 0) ∷ []) ([] ∷ [] ∷ []) (fed (1 ∷ []) ∷ fed (1 ∷ []) ∷ [])

-- 1 fires at 0 and programs 2 with a delay of 5, which was programmed for 5 before 3 was
abbrev pub put_last : Parts
put_last =
    net_of (event_block (negsuc 0) (pos 0) ∷ event_block (pos 5) (pos 5) ∷ event_block (negsuc 0) (pos 5) ∷ []) ([] ∷ [] ∷ [] ∷ []) (fed [] ∷ fed (1 ∷ []) ∷ fed [] ∷ [])

-- 1 fires at 0 and activates 2, which is pending and has no delay
abbrev pub left_alone : Parts
left_alone = net_of (event_block (negsuc 0) (pos 0) ∷ event_block (negsuc 0) (pos 5) ∷ []) ([] ∷ [] ∷ []) (fed [] ∷ fed (1 ∷ []) ∷ [])

-- 1 fires each tick and activates the sensor 2
abbrev pub sensed : Parts
sensed = net_of (event_block (pos 1) (pos 0) ∷ sensor ∷ []) ([] ∷ [] ∷ []) (fed (1 ∷ []) ∷ fed (1 ∷ []) ∷ [])

-- 1 fires at even ticks, 2 at odd ones; the sensor 3 is activated by 1
abbrev pub sensed_at_even : Parts
sensed_at_even =
    net_of (event_block (pos 2) (pos 0) ∷ event_block (pos 2) (pos 1) ∷ sensor ∷ []) ([] ∷ [] ∷ [] ∷ []) (fed (1 ∷ []) ∷ fed (2 ∷ []) ∷ fed (1 ∷ []) ∷ [])

-- 1 the constant 7 and 2 the constant 0, both active at start; 3 the first over the second
abbrev pub divided : Parts
divided = net_of (constant (pos 7) ∷ constant (pos 0) ∷ quotient ∷ []) ([] ∷ [] ∷ (wire 1 ∷ wire 2 ∷ []) ∷ []) ([] ∷ [] ∷ [] ∷ [])

-- 1 fires each tick; 2 counts them; 3 the sum of 2 and 4; 4 a delay of 3. Of these, 3 and 4 inherit.
abbrev pub fed_back : Parts
fed_back =
    net_of (event_block (pos 1) (pos 0) ∷ counter_from (pos 0) ∷ sum (pos 0) 0 ∷ delay_block (pos 0) 0 ∷ []) ([] ∷ [] ∷ (wire 2 ∷ wire 4 ∷ []) ∷ (wire 3 ∷ []) ∷ [])
    (fed (1 ∷ []) ∷ fed (1 ∷ []) ∷ [] ∷ [] ∷ [])

-- 1 fires each tick; 2 counts them; 3 a delay of 2, and 4 a delay of 3
abbrev pub shifted : Parts
shifted =
    net_of (event_block (pos 1) (pos 0) ∷ counter_from (pos 0) ∷ delay_block (pos 10) 1 ∷ delay_block (pos 20) 1 ∷ []) ([] ∷ [] ∷ (wire 2 ∷ []) ∷ (wire 3 ∷ []) ∷ [])
    (fed (1 ∷ []) ∷ fed (1 ∷ []) ∷ fed (1 ∷ []) ∷ fed (1 ∷ []) ∷ [])

-- 1 fires every 2 ticks and activates HALT_f
abbrev pub halting : Parts
halting = net_of (event_block (pos 2) (pos 0) ∷ halt_block ∷ []) ([] ∷ [] ∷ []) (fed (1 ∷ []) ∷ fed (1 ∷ []) ∷ [])

-- 1 fires every 10 ticks; 2 counts from 2; 3 is delayed by what 2 gives
abbrev pub delayed : Parts
delayed =
    net_of (event_block (pos 10) (pos 0) ∷ counter_from (pos 2) ∷ delayed_by_input ∷ []) ([] ∷ [] ∷ (wire 2 ∷ []) ∷ []) (fed (1 ∷ []) ∷ fed (1 ∷ []) ∷ fed (1 ∷ []) ∷ [])

-- 1 fires each tick; 2 a sensor; 3 a condition on it, whose branches activate the counters 4 and 5
abbrev pub branched : Parts
branched =
    net_of (timer ∷ sensor ∷ condition ∷ counter_from (pos 0) ∷ counter_from (pos 0) ∷ []) ([] ∷ [] ∷ (wire 2 ∷ []) ∷ [] ∷ [] ∷ [])
    (fed (1 ∷ []) ∷ fed (1 ∷ []) ∷ fed (1 ∷ []) ∷ ((record { block = 3; port = 1 } ∷ []) ∷ []) ∷ ((record { block = 3; port = 2 } ∷ []) ∷ []) ∷ [])

-- 1 a column of three values; 2 takes it apart into one of one and one of two
abbrev pub taken_apart : Parts
taken_apart =
    net_of
    (record { kind = Const; params = pos 4 ∷ pos 5 ∷ pos 6 ∷ []; state = []; firing = []; ins = []; outs = column (pos 3) ∷ []; evtin = 0; evtout = 0; feed = [] }
    ∷ record { kind = Demux; params = []; state = []; firing = []; ins = column (pos 3) ∷ []; outs = column (pos 1) ∷ column (pos 2) ∷ []; evtin = 0; evtout = 0; feed = true ∷ [] }
    ∷ [])
    ([] ∷ (wire 1 ∷ []) ∷ []) ([] ∷ [] ∷ [])

-- 1 fires once, at date 0, and activates HALT_f
abbrev pub halting_once : Parts
halting_once = net_of (event_block (negsuc 0) (pos 0) ∷ halt_block ∷ []) ([] ∷ [] ∷ []) (fed [] ∷ fed (1 ∷ []) ∷ [])

-- 1 the constant 1, active at start; 2 a condition on it that inherits; its first branch activates HALT_f
abbrev pub halting_at_start : Parts
halting_at_start =
    net_of (constant (pos 1) ∷ inheriting_condition ∷ halt_block ∷ []) ([] ∷ (wire 1 ∷ []) ∷ [] ∷ []) ([] ∷ [] ∷ ((record { block = 2; port = 1 } ∷ []) ∷ []) ∷ [])

-- the same, but the branch activates 3, which is pending for date 2 and has a delay of 5
abbrev pub put_off_at_start : Parts
put_off_at_start =
    net_of (constant (pos 1) ∷ inheriting_condition ∷ event_block (pos 5) (pos 2) ∷ []) ([] ∷ (wire 1 ∷ []) ∷ [] ∷ []) ([] ∷ [] ∷ ((record { block = 2; port = 1 } ∷ []) ∷ []) ∷ [])

-- 1 fires at 0 and again at once, each time
abbrev pub without_delay : Parts
without_delay = net_of (event_block (pos 0) (pos 0) ∷ []) ([] ∷ []) (fed (1 ∷ []) ∷ [])

-- 1 fires at 0 and programs both 2 and 3 with a delay of 3
abbrev pub both_at_three : Parts
both_at_three =
    net_of (event_block (negsuc 0) (pos 0) ∷ event_block (pos 3) (negsuc 0) ∷ event_block (pos 3) (negsuc 0) ∷ []) ([] ∷ [] ∷ [] ∷ []) (fed [] ∷ fed (1 ∷ []) ∷ fed (1 ∷ []) ∷ [])

-- 1 fires at 0 and activates the sensor 2 and HALT_f
abbrev pub sensed_and_halting : Parts
sensed_and_halting = net_of (event_block (negsuc 0) (pos 0) ∷ sensor ∷ halt_block ∷ []) ([] ∷ [] ∷ [] ∷ []) (fed [] ∷ fed (1 ∷ []) ∷ fed (1 ∷ []) ∷ [])

-- 1 fires each tick; 2 counts from 1; 3 a register of two of 2
abbrev pub registered : Parts
registered =
    net_of (timer ∷ counter_from (pos 1) ∷ register (pos 10) (pos 20) ∷ []) ([] ∷ [] ∷ (wire 2 ∷ []) ∷ []) (fed (1 ∷ []) ∷ fed (1 ∷ []) ∷ fed (1 ∷ []) ∷ [])

-- 1 fires each tick; 2 counts from 0; 3 selects by it one of two branches, which activate the counters 4 and 5
abbrev pub selected : Parts
selected =
    net_of (timer ∷ counter_from (pos 0) ∷ selector ∷ counter_from (pos 3) ∷ counter_from (pos 7) ∷ []) ([] ∷ [] ∷ (wire 2 ∷ []) ∷ [] ∷ [] ∷ [])
    (fed (1 ∷ []) ∷ fed (1 ∷ []) ∷ fed (1 ∷ []) ∷ ((record { block = 3; port = 1 } ∷ []) ∷ []) ∷ ((record { block = 3; port = 2 } ∷ []) ∷ []) ∷ [])

-- 1 fires once, at date 0, and 2 at date 7; 1 feeds both activation inputs of 3, and 2 the second
abbrev pub both_activated : Parts
both_activated =
    net_of (event_block (negsuc 0) (pos 0) ∷ event_block (negsuc 0) (pos 7) ∷ and_logic ∷ []) ([] ∷ [] ∷ [] ∷ [])
    (fed [] ∷ fed [] ∷ ((feed 1 ∷ []) ∷ (feed 1 ∷ feed 2 ∷ []) ∷ []) ∷ [])

-- 1 fires each tick; 2 a sensor; 3 a condition on it; 4 the constant 10 and 5 the constant 20; 6 selects one of them by the branch of 3
abbrev pub selected_by_branch : Parts
selected_by_branch =
    net_of (timer ∷ sensor ∷ condition ∷ constant (pos 10) ∷ constant (pos 20) ∷ selection ∷ []) ([] ∷ [] ∷ (wire 2 ∷ []) ∷ [] ∷ [] ∷ (wire 4 ∷ wire 5 ∷ []) ∷ [])
    (fed (1 ∷ []) ∷ fed (1 ∷ []) ∷ fed (1 ∷ []) ∷ [] ∷ [] ∷ ((record { block = 3; port = 1 } ∷ []) ∷ (record { block = 3; port = 2 } ∷ []) ∷ []) ∷ [])

-- ---- the runs, and what is observed

-- a sum of what a delay holds; the bound on events comes before that on time
abbrev pub counts_seen : List Obs
counts_seen = Start ∷ value 2 (pos 1) ∷ value 3 (pos 1) ∷ event 0 1 ∷ value 3 (pos 1) ∷ value 4 (pos 0) ∷ event 5 1 ∷ value 3 (pos 2) ∷ value 4 (pos 1) ∷ event 10 1 ∷ value 3 (pos 3) ∷ value 4 (pos 2) ∷ End Events ∷ []

-- an event at the bound on time fires, a later one doesn't
abbrev pub until_five_seen : List Obs
until_five_seen = Start ∷ value 2 (pos 1) ∷ value 3 (pos 1) ∷ event 0 1 ∷ value 3 (pos 1) ∷ value 4 (pos 0) ∷ event 5 1 ∷ value 3 (pos 2) ∷ value 4 (pos 1) ∷ End Until ∷ []

abbrev pub until_four_seen : List Obs
until_four_seen = Start ∷ value 2 (pos 1) ∷ value 3 (pos 1) ∷ event 0 1 ∷ value 3 (pos 1) ∷ value 4 (pos 0) ∷ End Until ∷ []

-- start reacts whatever the bounds are
abbrev pub no_event_allowed_seen : List Obs
no_event_allowed_seen = Start ∷ value 2 (pos 1) ∷ value 3 (pos 1) ∷ End Events ∷ []

abbrev pub nothing_there_seen : List Obs
nothing_there_seen = Start ∷ End Empty ∷ []

-- two events of one date are two reactions, in the order in which they were programmed
abbrev pub two_of_one_date_seen : List Obs
two_of_one_date_seen = Start ∷ value 3 (pos 4) ∷ event 7 1 ∷ value 4 (pos 9) ∷ event 7 2 ∷ value 4 (pos 4) ∷ End Empty ∷ []

-- a pending event that is programmed again is replaced
abbrev pub replaced_seen : List Obs
replaced_seen = Start ∷ event 0 1 ∷ event 2 1 ∷ event 4 1 ∷ event 6 1 ∷ End Events ∷ []

-- and the new one stands behind all others of its date
abbrev pub replaced_last_seen : List Obs
replaced_last_seen = Start ∷ event 0 1 ∷ event 5 3 ∷ event 5 2 ∷ End Empty ∷ []

-- a delay of -1 leaves it
abbrev pub not_replaced_seen : List Obs
not_replaced_seen = Start ∷ event 0 1 ∷ event 5 2 ∷ End Empty ∷ []

-- a sensor takes the values of its column one after the other, and stops the run at its end
abbrev pub input_ends_seen : List Obs
input_ends_seen = Start ∷ event 0 1 ∷ value 2 (pos 7) ∷ event 1 1 ∷ value 2 (pos 8) ∷ event 2 1 ∷ Stop Input (pos 2) (pos 0) ∷ []

-- where it isn't active it takes none
abbrev pub sensor_waits_seen : List Obs
sensor_waits_seen = Start ∷ event 0 1 ∷ value 3 (pos 7) ∷ event 1 2 ∷ event 2 1 ∷ value 3 (pos 8) ∷ End Events ∷ []

-- of a reaction that stops no value is observed
abbrev pub no_quotient_seen : List Obs
no_quotient_seen = Start ∷ Stop Zero (pos 3) (pos 0) ∷ []

-- a sum and a delay around it that inherit their activation
abbrev pub inherited_seen : List Obs
inherited_seen = Start ∷ event 0 1 ∷ value 2 (pos 0) ∷ value 3 (pos 0) ∷ value 4 (pos 0) ∷ event 1 1 ∷ value 2 (pos 1) ∷ value 3 (pos 1) ∷ value 4 (pos 0) ∷ event 2 1 ∷ value 2 (pos 2) ∷ value 3 (pos 3) ∷ value 4 (pos 1) ∷ End Events ∷ []

-- a delay takes what was given in the reaction, and not what comes in the next
abbrev pub shifts_seen : List Obs
shifts_seen = Start ∷ event 0 1 ∷ value 2 (pos 0) ∷ value 3 (pos 10) ∷ value 4 (pos 20) ∷ event 1 1 ∷ value 2 (pos 1) ∷ value 3 (pos 0) ∷ value 4 (pos 10) ∷ event 2 1 ∷ value 2 (pos 2) ∷ value 3 (pos 1) ∷ value 4 (pos 0) ∷ End Events ∷ []

-- the bound on events comes before an end for want of events
abbrev pub two_allowed_seen : List Obs
two_allowed_seen = Start ∷ value 3 (pos 4) ∷ event 7 1 ∷ value 4 (pos 9) ∷ event 7 2 ∷ value 4 (pos 4) ∷ End Events ∷ []

-- a halt comes before the bounds on events and on time, and before an end for want of events
abbrev pub halts_seen : List Obs
halts_seen = Start ∷ event 0 1 ∷ End Halt ∷ []

-- a delay is computed on the values of the reaction
abbrev pub delays_seen : List Obs
delays_seen = Start ∷ event 0 1 ∷ value 2 (pos 2) ∷ event 2 3 ∷ event 10 1 ∷ value 2 (pos 3) ∷ event 13 3 ∷ End Events ∷ []

-- the branch that isn't taken activates nothing
abbrev pub branches_seen : List Obs
branches_seen = Start ∷ event 0 1 ∷ value 2 (pos 5) ∷ value 4 (pos 0) ∷ event 1 1 ∷ value 2 (negsuc 0) ∷ value 5 (pos 0) ∷ event 2 1 ∷ value 2 (pos 0) ∷ value 5 (pos 1) ∷ End Events ∷ []

-- values are observed by block, port and element
abbrev pub taken_apart_seen : List Obs
taken_apart_seen = Start ∷ value 1 (pos 4) ∷ Val (pos 1) (pos 1) (pos 2) (pos 5) ∷ Val (pos 1) (pos 1) (pos 3) (pos 6) ∷ value 2 (pos 4) ∷ Val (pos 2) (pos 2) (pos 1) (pos 5) ∷ Val (pos 2) (pos 2) (pos 2) (pos 6) ∷ End Empty ∷ []

-- a halt behind start
abbrev pub halts_at_start_seen : List Obs
halts_at_start_seen = Start ∷ value 1 (pos 1) ∷ End Halt ∷ []

-- first events are programmed before start reacts
abbrev pub put_off_at_start_seen : List Obs
put_off_at_start_seen = Start ∷ value 1 (pos 1) ∷ event 5 3 ∷ End Empty ∷ []

-- a delay of 0 fires again at the same date, in a reaction of its own
abbrev pub no_delay_seen : List Obs
no_delay_seen = Start ∷ event 0 1 ∷ event 0 1 ∷ event 0 1 ∷ End Events ∷ []

-- of two that one reaction programs for one date, the lesser block is first
abbrev pub by_block_seen : List Obs
by_block_seen = Start ∷ event 0 1 ∷ event 3 2 ∷ event 3 3 ∷ End Empty ∷ []

-- a reaction that stops ends the run, and HALT_f ends nothing there
abbrev pub stops_at_halt_seen : List Obs
stops_at_halt_seen = Start ∷ event 0 1 ∷ Stop Input (pos 2) (pos 0) ∷ []

-- a register gives first what it holds
abbrev pub registered_seen : List Obs
registered_seen = Start ∷ event 0 1 ∷ value 2 (pos 1) ∷ value 3 (pos 10) ∷ event 1 1 ∷ value 2 (pos 2) ∷ value 3 (pos 20) ∷ event 2 1 ∷ value 2 (pos 3) ∷ value 3 (pos 1) ∷ End Events ∷ []

-- a number below the first branch takes the first, and one above the last the last
abbrev pub selected_seen : List Obs
selected_seen = Start ∷ event 0 1 ∷ value 2 (pos 0) ∷ value 4 (pos 3) ∷ event 1 1 ∷ value 2 (pos 1) ∷ value 4 (pos 4) ∷ event 2 1 ∷ value 2 (pos 2) ∷ value 5 (pos 7) ∷ event 3 1 ∷ value 2 (pos 3) ∷ value 5 (pos 8) ∷ End Events ∷ []

-- one event may activate several inputs of a block; those of other reactions don't count
abbrev pub both_activated_seen : List Obs
both_activated_seen = Start ∷ event 0 1 ∷ value 3 (pos 1) ∷ event 7 2 ∷ value 3 (negsuc 0) ∷ End Empty ∷ []

-- the input of the branch that was taken
abbrev pub selected_by_branch_seen : List Obs
selected_by_branch_seen = Start ∷ value 4 (pos 10) ∷ value 5 (pos 20) ∷ event 0 1 ∷ value 2 (pos 5) ∷ value 6 (pos 10) ∷ event 1 1 ∷ value 2 (negsuc 0) ∷ value 6 (pos 20) ∷ End Events ∷ []

-- ---- last states

-- date of the last reaction, events that have fired, and how often the sum, the delay and all blocks were active
abbrev pub CountsLast : State → Type 0
CountsLast st =
    (st.now ≡ 10) × (st.fired ≡ 3) × (activations_of_kind count_by_five st Summation ≡ 4) × (activations_of_kind count_by_five st Dollar ≡ 3)
    × (all_activations count_by_five st ≡ 11)

-- a sensor that isn't always active
abbrev pub SensorWaitsLast : State → Type 0
SensorWaitsLast st =
    (st.now ≡ 2) × (activations_of_kind sensed_at_even st Sensor ≡ 2) × (activations_of_kind sensed_at_even st EvtDly ≡ 3) × (all_activations sensed_at_even st ≡ 5)
    × (st.active 2 ≡ false) × (st.active 3 ≡ true)

pub record WorkedRuns : Type 0 where
  pub counts : IsRun count_by_five [] 10 3 counts_seen
  pub until_five : IsRun count_by_five [] 5 10 until_five_seen
  pub until_four : IsRun count_by_five [] 4 10 until_four_seen
  pub no_event_allowed : IsRun count_by_five [] 100 0 no_event_allowed_seen
  pub nothing_there : IsRun no_blocks [] 0 10 nothing_there_seen
  pub two_of_one_date : IsRun twice_at_seven [] 100 10 two_of_one_date_seen
  pub replaced : IsRun put_off [] 100 4 replaced_seen
  pub replaced_last : IsRun put_last [] 5 10 replaced_last_seen
  pub not_replaced : IsRun left_alone [] 100 10 not_replaced_seen
  pub input_ends : IsRun sensed ((pos 7 ∷ pos 8 ∷ []) ∷ []) 10 5 input_ends_seen
  pub sensor_waits : IsRun sensed_at_even ((pos 7 ∷ pos 8 ∷ []) ∷ []) 10 3 sensor_waits_seen
  pub no_quotient : IsRun divided [] 10 10 no_quotient_seen
  pub inherited : IsRun fed_back [] 10 3 inherited_seen
  pub shifts : IsRun shifted [] 10 3 shifts_seen
  pub two_allowed : IsRun twice_at_seven [] 100 2 two_allowed_seen
  pub halts : IsRun halting [] 10 1 halts_seen
  pub halts_at_until : IsRun halting [] 0 10 halts_seen
  pub halts_last : IsRun halting_once [] 10 5 halts_seen
  pub halts_behind_start : IsRun halting_at_start [] 10 0 halts_at_start_seen
  pub programmed_before_start : IsRun put_off_at_start [] 10 5 put_off_at_start_seen
  pub no_delay : IsRun without_delay [] 10 3 no_delay_seen
  pub by_block : IsRun both_at_three [] 10 10 by_block_seen
  pub stops_at_halt : IsRun sensed_and_halting ([] ∷ []) 10 10 stops_at_halt_seen
  pub registers : IsRun registered [] 10 3 registered_seen
  pub selects : IsRun selected [] 10 4 selected_seen
  pub delays : IsRun delayed [] 100 4 delays_seen
  pub branches : IsRun branched ((pos 5 ∷ negsuc 0 ∷ pos 0 ∷ []) ∷ []) 10 3 branches_seen
  pub elements : IsRun taken_apart [] 10 10 taken_apart_seen
  pub masks : IsRun both_activated [] 10 10 both_activated_seen
  pub masks_of_branches : IsRun selected_by_branch ((pos 5 ∷ negsuc 0 ∷ []) ∷ []) 10 2 selected_by_branch_seen
  pub counts_last : FinishesWith count_by_five [] 10 3 (ByEnd Events) counts_seen CountsLast
  pub sensor_waits_last : FinishesWith sensed_at_even ((pos 7 ∷ pos 8 ∷ []) ∷ []) 10 3 (ByEnd Events) sensor_waits_seen SensorWaitsLast
