-- What a reaction is, worked out by hand for small nets. In `branching` the timer activates the sensor 2, the condition 3 and the second input of 7; the
-- first branch of 3 activates the counter 4, from which 5 inherits, and the first input of 7; the second branch activates 6 and the second input of 7.
use Rattle.std.proofs.Common.{◌≡◌, ℕ, zero, suc, ◌≤◌, Bool, true, false, inl, inr, ⊎_elim, ℤ, pos, List, [], ◌∷◌, length, Contains, Some, None, Result, Ok, Err, nat_eq, if◌then◌else◌, refl, sym, ap, lit≤, lit<, arith, true≢false}
use Rattle.sci_base.specs.declared.observation.StopWord.{StopWord}
use Rattle.sci_base.specs.declared.observation.StopWord.TheVariants.{Overflow, Zero, Input, Conflict}
use Rattle.sci_kinds.specs.Table.{NoFit, NoQuotient}
use Rattle.sci_net.specs.declared.Source.{Source}
use Rattle.sci_net.specs.declared.Source.TheVariants.{Start, Port}
use Rattle.sci_net.specs.Parts.{IsInput, spec_of, wire_of}
use Rattle.sci_reaction.specs.Links.{has_feedthrough, Supplies, SuppliesThrough, Feeds, IsConstant, Inherits, SetOff, IsSource, SourceFeeds}
use Rattle.sci_reaction.specs.Active.{seeded, passed, Reaches, IsAlways, IsSync, set_off, taken, inherited, Possible}
use Rattle.sci_reaction.specs.Depends.{Conditions, Depends, HasDepth, Precedes}
use Rattle.sci_reaction.specs.Equations.{Signals, output_among, input_in, branch_on, values_or_word, sensed, answer_of, answer, Takes, Active, IsActivated, HasBits, Meets, Holds}
use Rattle.sci_reaction.specs.Memory.{Memory, Columns, first_memory, next_value}
use Rattle.sci_reaction.specs.Next.{IsUpdated, Stays}
use Rattle.sci_reaction.specs.Result.{Reaction, Whole, Stopped, IsResult, AreSame}
use Rattle.sci_reaction.specs.Schedule.{Guard, Entry, blocks_of, IsEntry, IsRow, IsSchedule}
use Rattle.sci_reaction.specs.Pass.{Progress, put, applies, with_guards, pass, at_rest}
use Rattle.sci_loop.specs.Depth.{ChainTo}
use Rattle.sci_examples.proofs.Blocks.{column, feed, branch, gate, sensor, counting, branching, sum_first, apart}

abbrev pub tick : Source
tick = Port (feed 1)

-- ---- links

-- of the gated delay the first input has no feedthrough, the second has, and there is no third
first_waits : has_feedthrough gate 1 ≡ false
first_waits = refl

second_feeds : has_feedthrough gate 2 ≡ true
second_feeds = refl

third_missing : has_feedthrough gate 3 ≡ false
third_missing = refl

sum_input : IsInput counting 3 1
sum_input = record { block = record { least = lit≤ tt; most = lit≤ tt }; least = lit≤ tt; most = lit≤ tt }

-- the constant supplies the sum, whose input has feedthrough
supplies : Supplies counting 2 3
supplies = record { input = 1; within = sum_input; from = refl }

supplies_through : SuppliesThrough counting 2 3
supplies_through = record { input = 1; within = sum_input; from = refl; through = refl }

-- the sum supplies the delay, whose input has none
pub no_feedthrough : (k : ℕ) → has_feedthrough (spec_of counting 4) k ≡ true → ⊥
no_feedthrough zero h = true≢false (sym h)
no_feedthrough (suc zero) h = true≢false (sym h)
no_feedthrough (suc (suc k)) h = true≢false (sym h)

not_through : SuppliesThrough counting 3 4 → ⊥
not_through h = no_feedthrough h.input h.through

-- the timer feeds the second activation input of 7
second_fed : Feeds branching (feed 1) 7
second_fed =
    record { input = 2; within = record { block = record { least = lit≤ tt; most = lit≤ tt }; least = lit≤ tt; most = lit≤ tt }; fed = (0, lit< tt, refl) }

constant_is : IsConstant counting 2
constant_is = record { block = record { least = lit≤ tt; most = lit≤ tt }; no_input = refl; no_activation_input = refl }

-- a counter has no inputs either, but an activation input
counter_is_none : IsConstant branching 4 → ⊥
counter_is_none h = omega (arith, h.no_activation_input)

gain_inherits : Inherits branching 5
gain_inherits = record { some_input = lit< tt; no_activation_input = refl }

-- a constant has no input from whose source it might inherit, and a delay has an activation input
constant_inherits_not : Inherits counting 2 → ⊥
constant_inherits_not h = omega (arith, h.some_input)

delay_inherits_not : Inherits counting 4 → ⊥
delay_inherits_not h = omega (arith, h.no_activation_input)

start_sets_off : SetOff counting Start 2
start_sets_off = constant_is

timer_is_source : IsSource counting tick
timer_is_source = (record { block = record { least = lit≤ tt; most = lit≤ tt }; least = lit≤ tt; most = lit≤ tt }, refl)

-- a branch is no source
branch_is_none : IsSource branching (Port (branch 3 1)) → ⊥
branch_is_none h = true≢false h.1

source_feeds : SourceFeeds branching tick 7 2
source_feeds = (0, lit< tt, refl)

start_feeds_none : SourceFeeds branching Start 7 2 → ⊥
start_feeds_none h = h

-- ---- what is activated

branch_feeds : Feeds branching (branch 3 1) 4
branch_feeds =
    record { input = 1; within = record { block = record { least = lit≤ tt; most = lit≤ tt }; least = lit≤ tt; most = lit≤ tt }; fed = (0, lit< tt, refl) }

gain_input : IsInput branching 5 1
gain_input = record { block = record { least = lit≤ tt; most = lit≤ tt }; least = lit≤ tt; most = lit≤ tt }

gain_supplied : Supplies branching 4 5
gain_supplied = record { input = 1; within = gain_input; from = refl }

-- the gain isn't fed by the branch, but inherits from the counter that is
reached : Reaches branching (branch 3 1) 5
reached = passed 4 5 (seeded 4 branch_feeds) gain_inherits gain_supplied

-- the sum inherits from the constant, at start
always : IsAlways counting Start 3
always = passed 2 3 (seeded 2 constant_is) (record { some_input = lit< tt; no_activation_input = refl }) supplies

sensor_possible : Possible branching tick 2
sensor_possible =
    set_off 2 (record { input = 1; within = record { block = record { least = lit≤ tt; most = lit≤ tt }; least = lit≤ tt; most = lit≤ tt }; fed = (0, lit< tt, refl) })

condition_fed : Feeds branching (feed 1) 3
condition_fed =
    record { input = 1; within = record { block = record { least = lit≤ tt; most = lit≤ tt }; least = lit≤ tt; most = lit≤ tt }; fed = (0, lit< tt, refl) }

condition_possible : Possible branching tick 3
condition_possible = set_off 3 condition_fed

pub counter_possible : Possible branching tick 4
counter_possible = taken 3 1 4 condition_possible refl tt branch_feeds

gain_possible : Possible branching tick 5
gain_possible = inherited 4 5 counter_possible gain_inherits gain_supplied

-- the sensor gives 5, which is above 0: the first branch is taken
abbrev five : Signals
five b = if nat_eq b 2 then pos 5 ∷ [] else []

takes_first : Takes branching five 3 1
unfolding branch_on
takes_first = refl

counter_active : Active branching tick five 4
counter_active = taken 3 1 4 (set_off 3 condition_fed) refl takes_first branch_feeds

-- 7 by the branch, and by the source itself
by_branch : IsActivated branching tick five 7 1
by_branch = record {
  within = record { block = record { least = lit≤ tt; most = lit≤ tt }; least = lit≤ tt; most = lit≤ tt };
  how = inr (record { block = 3; port = 1; active = set_off 3 condition_fed; sync = refl; takes = takes_first; fed = (0, lit< tt, refl) });
}

by_source : IsActivated branching tick five 7 2
by_source = record {
  within = record { block = record { least = lit≤ tt; most = lit≤ tt }; least = lit≤ tt; most = lit≤ tt };
  how = inl source_feeds;
}

-- of a mask 2 the second activation input is activated
second_bit : (P : ℕ → Type 0) → HasBits 2 P → P 2
second_bit P h = (h 1).0 refl

-- ---- what waits for what

-- the condition waits for the sensor, the counter for the condition, and so does the gain, which the branch reaches
condition_waits : Depends branching tick 3 2
condition_waits = record {
  possible = condition_possible;
  on_possible = sensor_possible;
  waits = inl (record {
    input = 1;
    within = record { block = record { least = lit≤ tt; most = lit≤ tt }; least = lit≤ tt; most = lit≤ tt };
    from = refl;
    through = refl;
  });
}

counter_waits : Depends branching tick 4 3
counter_waits =
    record { possible = counter_possible; on_possible = condition_possible; waits = inr (record { sync = refl; branch = 1; reaches = seeded 4 branch_feeds }) }

gain_waits : Conditions branching 3 5
gain_waits = record { sync = refl; branch = 1; reaches = reached }

-- the delay waits for nothing
delay_waits_not : Depends counting tick 4 3 → ⊥
delay_waits_not h = ⊎_elim (λ u. no_feedthrough u.input u.through) (λ k. true≢false (sym k.sync)) h.waits

-- ---- the order: of a sum, which is block 1, and two constants

no_sync : (b : ℕ) → IsSync sum_first b → ⊥
no_sync zero h = true≢false (sym h)
no_sync (suc zero) h = true≢false (sym h)
no_sync (suc (suc zero)) h = true≢false (sym h)
no_sync (suc (suc (suc zero))) h = true≢false (sym h)
no_sync (suc (suc (suc (suc b)))) h = true≢false (sym h)

-- the sum alone has inputs, and they are fed by the constants
inputs_fed : (c k b : ℕ) → 1 ≤ k → k ≤ length (spec_of sum_first c).ins → (wire_of sum_first c k).block ≡ b → (c ≡ 1) × (2 ≤ b)
inputs_fed zero k b least most e = absurd (omega (arith, least, most))
inputs_fed (suc zero) zero b least most e = absurd (omega (arith, least))
inputs_fed (suc zero) (suc zero) b least most e = (refl, omega (arith, e))
inputs_fed (suc zero) (suc (suc zero)) b least most e = (refl, omega (arith, e))
inputs_fed (suc zero) (suc (suc (suc k))) b least most e = absurd (omega (arith, most))
inputs_fed (suc (suc zero)) k b least most e = absurd (omega (arith, least, most))
inputs_fed (suc (suc (suc zero))) k b least most e = absurd (omega (arith, least, most))
inputs_fed (suc (suc (suc (suc c)))) k b least most e = absurd (omega (arith, least, most))

waits_on : (c b : ℕ) → Depends sum_first Start c b → (c ≡ 1) × (2 ≤ b)
waits_on c b h = ⊎_elim (λ u. inputs_fed c u.input b u.within.least u.within.most u.from) (λ k. absurd (no_sync b k.sync)) h.waits

constant_chain : (b m : ℕ) → 2 ≤ b → ChainTo (Depends sum_first Start) m b → m ≤ 0
constant_chain b zero more h = lit≤ tt
constant_chain b (suc m) more h = let w = (waits_on b h.0 h.1).0 in absurd (omega (arith, w, more))

sum_chain : (m : ℕ) → ChainTo (Depends sum_first Start) m 1 → m ≤ 1
sum_chain zero h = lit≤ tt
sum_chain (suc m) h = let w = constant_chain h.0 m (waits_on 1 h.0 h.1).1 h.2 in omega (arith, w)

second_depth : HasDepth sum_first Start 2 1
second_depth = (0, refl, tt, λ m h. constant_chain 2 m (lit≤ tt) h)

third_depth : HasDepth sum_first Start 3 1
third_depth = (0, refl, tt, λ m h. constant_chain 3 m (lit≤ tt) h)

third_at_start : Possible sum_first Start 3
third_at_start = set_off 3 (record { block = record { least = lit≤ tt; most = lit≤ tt }; no_input = refl; no_activation_input = refl })

second_input : IsInput sum_first 1 2
second_input = record { block = record { least = lit≤ tt; most = lit≤ tt }; least = lit≤ tt; most = lit≤ tt }

sum_supplied : SuppliesThrough sum_first 3 1
sum_supplied = record { input = 2; within = second_input; from = refl; through = refl }

sum_at_start : Possible sum_first Start 1
sum_at_start =
    inherited 3 1 third_at_start (record { some_input = lit< tt; no_activation_input = refl }) (record { input = 2; within = second_input; from = refl })

sum_waits : Depends sum_first Start 1 3
sum_waits = record { possible = sum_at_start; on_possible = third_at_start; waits = inl sum_supplied }

sum_depth : HasDepth sum_first Start 1 2
sum_depth = (1, refl, (3, sum_waits, tt), λ m h. sum_chain m h)

-- the constants by their numbers, and the sum behind them by its depth
by_number : Precedes sum_first Start 2 3
by_number = record { depth = 1; later_depth = 1; has = second_depth; later_has = third_depth; less = inr (refl, lit< tt) }

by_depth : Precedes sum_first Start 3 1
by_depth = record { depth = 1; later_depth = 2; has = third_depth; later_has = sum_depth; less = inl (lit< tt) }

-- ---- values and answers

-- of the values 4, 5, 6 on outputs of one and of two elements
first_output : output_among (column (pos 1) ∷ column (pos 2) ∷ []) (pos 4 ∷ pos 5 ∷ pos 6 ∷ []) 1 ≡ pos 4 ∷ []
first_output = refl

second_output : output_among (column (pos 1) ∷ column (pos 2) ∷ []) (pos 4 ∷ pos 5 ∷ pos 6 ∷ []) 2 ≡ pos 5 ∷ pos 6 ∷ []
second_output = refl

-- the first input of 3 is fed by the second output of 2
input_fed : input_in apart (λ b. if nat_eq b 2 then pos 4 ∷ pos 5 ∷ pos 6 ∷ [] else []) 3 1 ≡ pos 5 ∷ pos 6 ∷ []
input_fed = refl

overflows : values_or_word NoFit ≡ Err Overflow
overflows = refl

divides_by_zero : values_or_word NoQuotient ≡ Err Zero
divides_by_zero = refl

used_up : sensed (sensor (pos 1)) [] 1 None ≡ Err Input
used_up = refl

sensor_gives : answer_of (sensor (pos 1)) [] (Some (pos 9)) 1 (λ k. []) ≡ Ok (pos 9 ∷ [])
sensor_gives = refl

-- ---- memories

-- the delay has a state, which it holds; the sum has none, and holds 0
delay_holds : (first_memory counting).held 4 ≡ pos 8 ∷ []
delay_holds = refl

sum_holds : (first_memory counting).held 3 ≡ pos 0 ∷ []
sum_holds = refl

sum_state : (first_memory counting).state 3 ≡ []
sum_state = refl

none_taken : (first_memory branching).cursor 2 ≡ 0
none_taken = refl

-- the columns 7, 8 and 9
abbrev file : Columns
file = (pos 7 ∷ pos 8 ∷ []) ∷ (pos 9 ∷ []) ∷ []

second_column : next_value file (sensor (pos 2)) 0 ≡ Some (pos 9)
second_column = refl

second_value : next_value file (sensor (pos 1)) 1 ≡ Some (pos 8)
second_value = refl

column_ends : next_value file (sensor (pos 1)) 2 ≡ None
column_ends = refl

-- each block has the state 3, holds 7, and has taken one value
abbrev remembered : Memory
remembered = record { state = λ b. pos 3 ∷ []; held = λ b. pos 7 ∷ []; cursor = λ b. 1 }

idle_holds : (y : Signals) → Holds branching remembered tick y 4 → y 4 ≡ pos 7 ∷ []
idle_holds y h = h.held

-- the counter goes on from its state, and holds what it gives; it takes no value
counter_steps : (y : Signals) (after : Memory) → IsUpdated branching remembered tick y after 4 → after.state 4 ≡ pos 4 ∷ []
counter_steps y after h = h.state

counter_gives : (y : Signals) (after : Memory) → IsUpdated branching remembered tick y after 4 → after.held 4 ≡ y 4
counter_gives y after h = h.held

counter_takes_none : (y : Signals) (after : Memory) → IsUpdated branching remembered tick y after 4 → after.cursor 4 ≡ 1
counter_takes_none y after h = h.cursor

sensor_takes_one : (y : Signals) (after : Memory) → IsUpdated branching remembered tick y after 2 → after.cursor 2 ≡ 2
sensor_takes_one y after h = h.cursor

-- an idle block stays as it is
idle_state : (y : Signals) (after : Memory) → Stays branching remembered tick y after 4 → after.state 4 ≡ pos 3 ∷ []
idle_state y after h = h.state

idle_cursor : (y : Signals) (after : Memory) → Stays branching remembered tick y after 2 → after.cursor 2 ≡ 1
idle_cursor y after h = h.cursor

-- ---- results

is_zero : StopWord → Bool
is_zero Overflow = false
is_zero Zero = true
is_zero Input = false
is_zero Conflict = false

other_word : AreSame counting (Stopped 3 Zero) (Stopped 3 Input) → ⊥
unfolding is_zero
other_word h = true≢false (ap is_zero h.1)

other_block : AreSame counting (Stopped 3 Zero) (Stopped 4 Zero) → ⊥
other_block h = omega (arith, h.0)

stop_is_no_value : (y : Signals) → AreSame counting (Whole y) (Stopped 3 Zero) → ⊥
stop_is_no_value y h = h

given_by : Result (List ℤ) StopWord → List ℤ
given_by (Ok vs) = vs
given_by (Err word) = []

third_active : (y : Signals) → Active sum_first Start y 3
third_active y = set_off 3 (record { block = record { least = lit≤ tt; most = lit≤ tt }; no_input = refl; no_activation_input = refl })

constant_met : (m : Memory) (i : Columns) (y : Signals) → Meets sum_first m i Start y 3 → y 3 ≡ pos 2 ∷ []
unfolding answer given_by
constant_met m i y h = ⊎_elim (λ g. sym (ap given_by g.answer_is)) (λ k. absurd (k.idle (third_active y))) h

-- where the sum stops, the constant 3, which stands before it, has its value
before_stop : (m : Memory) (i : Columns) (word : StopWord) (r : IsResult sum_first m i Start (Stopped 1 word)) → r.0 3 ≡ pos 2 ∷ []
before_stop m i word r = constant_met m i r.0 (r.1 3 (record { least = lit≤ tt; most = lit≤ tt }) (λ may. by_depth))

-- and no reaction stops at the constant, which has a value
never_there : (m : Memory) (i : Columns) (word : StopWord) → IsResult sum_first m i Start (Stopped 3 word) → ⊥
unfolding answer given_by
never_there m i word r = let e = ap (λ (g : Result (List ℤ) StopWord). length (given_by g)) r.2.answer_is in omega (arith, e)

-- ---- schedules

abbrev guard : ℕ → ℕ → ℕ → Guard
guard b p mask = record { block = b; port = p; mask = mask }

abbrev entry : ℕ → Bool → List Guard → Entry
entry b always_is guards = record { block = b; depth = 3; always = always_is; mask = 0; guards = guards }

-- of 7, whose second activation input the source feeds, the guards stand from the last to the first
falling_guards : IsEntry branching tick (record { block = 7; depth = 3; always = true; mask = 2; guards = guard 3 2 2 ∷ guard 3 1 1 ∷ [] }) → ⊥
falling_guards h = true≢false (sym (h.rising 0 1 (guard 0 0 0) (lit< tt) (lit< tt)))

-- an entry says always where the source activates the block whatever the values are
says_always : IsEntry branching tick (entry 4 true (guard 3 1 1 ∷ [])) → IsAlways branching tick 4
says_always h = h.always_is.0 refl

-- a row has all blocks that the source may activate, in their order
has_counter : (row : List Entry) → IsRow branching tick row → Contains (blocks_of row) 4
has_counter row h = (h.exactly 4).1 counter_possible

first_before_second : (d e : Entry) (rest : List Entry) → IsRow branching tick (d ∷ e ∷ rest) → Precedes branching tick d.block e.block
first_before_second d e rest h = h.ordered 0 1 d (lit< tt) (omega arith)

-- the counting net has two sources, start first
no_rows : IsSchedule counting [] → ⊥
no_rows h = omega (arith, h.enough)

start_first : (row : List Entry) (rows : List (List Entry)) → IsSchedule counting (row ∷ rows) → IsRow counting Start row
start_first row rows h = h.each 0 (omega arith)

-- ---- one pass

put_there : put {A = ℕ} (λ a. 0) 2 7 2 ≡ 7
put_there = refl

-- the condition has been active, and its first branch is taken
abbrev halfway : Progress
halfway = record { values = five; applied = λ b. nat_eq b 3 }

mask_grows : with_guards branching halfway 1 (guard 3 1 2 ∷ []) ≡ 3
unfolding branch_on
mask_grows = refl

mask_stays : with_guards branching halfway 1 (guard 3 2 2 ∷ []) ≡ 1
unfolding branch_on
mask_stays = refl

always_applies : applies branching halfway (entry 2 true []) ≡ true
always_applies = refl

rests : (at_rest remembered).values 4 ≡ pos 7 ∷ []
rests = refl

abbrev value_at : Reaction → ℕ → List ℤ
value_at (Whole y) b = y b
value_at (Stopped c word) b = []

-- the sensor takes 8, so the first branch is taken, and the counter gives its state
guarded_runs : value_at (pass branching remembered file (entry 2 true [] ∷ entry 3 true [] ∷ entry 4 false (guard 3 1 1 ∷ []) ∷ []) (at_rest remembered)) 4 ≡ pos 3 ∷ []
unfolding branch_on answer
guarded_runs = refl
