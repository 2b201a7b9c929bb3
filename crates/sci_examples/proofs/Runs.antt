-- What a run is, worked out by hand: what is programmed, observed, and comes next.
use Rattle.std.proofs.Common.{◌≡◌, ℕ, true, false, pos, negsuc, [], ◌∷◌, length, Some, None, nat_eq, refl, ap, lit≤, lit<, arith}
use Rattle.sci_base.specs.declared.observation.Obs.TheVariants.{Start as Started, Event as Fired, Val, End, Stop}
use Rattle.sci_base.specs.declared.observation.EndWord.TheVariants.{Halt, Events, Empty, Until}
use Rattle.sci_base.specs.declared.observation.StopWord.TheVariants.{Zero}
use Rattle.sci_forms.specs.declared.Kind.TheVariants.{Summation}
use Rattle.sci_net.specs.declared.Source.TheVariants.{Start, Port}
use Rattle.sci_net.specs.Parts.{Parts, IsBlock}
use Rattle.sci_reaction.specs.Memory.{Memory}
use Rattle.sci_pending.specs.Pending.{Event, Pending}
use Rattle.sci_run.specs.Programs.{with_delay, first_pending, next_pending}
use Rattle.sci_run.specs.Observed.{header, elements_seen, outputs_seen, blocks_seen, stop_seen, reactions}
use Rattle.sci_run.specs.Run.{State, first_state, taken, after_reaction, Reacts, Leads, StopsWith, Over, Fires, in_time, comes_next, Then, EndsOr, IsRunFrom, IsRest, IsRun, here, Reachable}
use Rattle.sci_run.specs.Finish.{ByEnd, Finish, ended}
use Rattle.sci_run.specs.Counts.{activations_of_kind, all_activations}
use Rattle.sci_run.specs.Order.{IsAhead}
use Rattle.sci_run.specs.Anew.{numbered_anew, Rises}
use Rattle.sci_examples.proofs.Blocks.{column, feed, branch, event_block, net_of, no_blocks, counting, apart}
use Rattle.sci_examples.proofs.Halts.{halting}

abbrev event : (date order source : ℕ) → Event
event date order source = record { date = date; order = order; source = source }

abbrev nothing : Pending
nothing = record { events = []; programmed = 0 }

-- ---- what is programmed

-- 1 fires first at 7, and has a delay of 3; 2 has none of both; 3 fires first at 7
abbrev three_events : Parts
three_events =
    net_of (event_block (pos 3) (pos 7) ∷ event_block (negsuc 0) (negsuc 0) ∷ event_block (pos 5) (pos 7) ∷ []) ([] ∷ [] ∷ [] ∷ [])
    (([] ∷ []) ∷ ([] ∷ []) ∷ ([] ∷ []) ∷ [])

-- 5 ticks behind the date; with a delay of -1 what is pending stays
with_5 : with_delay 10 1 (pos 5) nothing ≡ record { events = event 15 0 1 ∷ []; programmed = 1 }
with_5 = refl

left_as_is : with_delay 10 1 (negsuc 0) (record { events = event 12 0 1 ∷ []; programmed = 1 }) ≡ record { events = event 12 0 1 ∷ []; programmed = 1 }
left_as_is = refl

-- source 0 is start, so those of blocks 1 and 3 are 1 and 3; that of block 1 is programmed first
first_events : first_pending three_events ≡ record { events = event 7 1 3 ∷ event 7 0 1 ∷ []; programmed = 2 }
first_events = refl

-- at date 10 block 1 alone is active
later_events : next_pending three_events 10 (λ b. []) (λ b. nat_eq b 1) nothing ≡ record { events = event 13 0 1 ∷ []; programmed = 1 }
later_events = refl

-- ---- what is observed

fired_port : header 12 (Port (branch 4 2)) ≡ Fired (pos 12) (pos 4) (pos 2)
fired_port = refl

two_elements : elements_seen 2 1 1 (pos 5 ∷ pos 6 ∷ []) ≡ Val (pos 2) (pos 1) (pos 1) (pos 5) ∷ Val (pos 2) (pos 1) (pos 2) (pos 6) ∷ []
two_elements = refl

-- of outputs of one and of two elements
two_outputs : outputs_seen 2 1 (column (pos 1) ∷ column (pos 2) ∷ []) (pos 4 ∷ pos 5 ∷ pos 6 ∷ [])
    ≡ Val (pos 2) (pos 1) (pos 1) (pos 4) ∷ Val (pos 2) (pos 2) (pos 1) (pos 5) ∷ Val (pos 2) (pos 2) (pos 2) (pos 6) ∷ []
two_outputs = refl

-- of the active block alone, which is the third
active_alone : blocks_seen 1 apart.specs (λ b. pos 10 ∷ pos 12 ∷ []) (λ b. nat_eq b 3) ≡ Val (pos 3) (pos 1) (pos 1) (pos 10) ∷ Val (pos 3) (pos 1) (pos 2) (pos 12) ∷ []
active_alone = refl

stop_told : stop_seen 4 (Port (feed 1)) 3 Zero ≡ Fired (pos 4) (pos 1) (pos 1) ∷ Stop Zero (pos 3) (pos 0) ∷ []
stop_told = refl

-- start's and one event's
two_reactions : reactions (Started ∷ Val (pos 1) (pos 1) (pos 1) (pos 5) ∷ Fired (pos 0) (pos 1) (pos 1) ∷ End Empty ∷ []) ≡ 2
two_reactions = refl

-- ---- states

abbrev remembered : Memory
remembered = record { state = λ b. []; held = λ b. []; cursor = λ b. 0 }

-- behind a reaction at date 4, with an event for date 9, and so many that have fired
abbrev standing : ℕ → State
standing fired =
    record { memory = remembered; pending = record { events = event 9 2 1 ∷ []; programmed = 3 }; now = 4; fired = fired; active = λ b. false; activations = λ b. 6 }

one_more_fired : (taken (standing 2) (event 9 2 1)).fired ≡ 3
one_more_fired = refl

none_pending : (taken (standing 2) (event 9 2 1)).pending.events ≡ []
none_pending = refl

-- behind a reaction at date 9 of block 1 alone
abbrev later : State
later = after_reaction three_events 9 (standing 2) (λ b. []) (λ b. nat_eq b 1) remembered

later_now : later.now ≡ 9
later_now = refl

fired_before : later.fired ≡ 2
fired_before = refl

active_once_more : later.activations 1 ≡ 7
active_once_more = refl

idle_as_before : later.activations 2 ≡ 6
idle_as_before = refl

-- behind what was pending
programmed_anew : later.pending.events ≡ event 12 3 1 ∷ []
programmed_anew = refl

begun : (first_state three_events).pending ≡ first_pending three_events
begun = refl

none_active : (first_state three_events).active 1 ≡ false
none_active = refl

-- ---- what comes next

at_the_bound : in_time 9 (Some (event 9 2 1)) ≡ Fires (event 9 2 1)
at_the_bound = refl

behind_the_bound : in_time 8 (Some (event 9 2 1)) ≡ Over Until
behind_the_bound = refl

none_there : in_time 8 None ≡ Over Empty
none_there = refl

-- a halt before the bound on events, that before the other ends, and an event where one may fire
halt_first : comes_next halting 8 0 (record (standing 2) { active = λ b. true }) ≡ Over Halt
halt_first = refl

events_then : comes_next halting 8 0 (standing 2) ≡ Over Events
events_then = refl

one_may_fire : comes_next halting 9 1 (standing 2) ≡ Fires (event 9 2 1)
one_may_fire = refl

-- ---- runs

-- what was seen before stands first
seen_first : Then (Leads (Started ∷ []) later) (λ after os. os ≡ End Empty ∷ []) (Started ∷ End Empty ∷ [])
seen_first = (End Empty ∷ [], refl, refl)

-- nothing follows a stop
stop_is_last : Then (StopsWith (Started ∷ [])) (λ after os. os ≡ End Empty ∷ []) (Started ∷ End Empty ∷ []) → ⊥
stop_is_last h = let e = ap length h in omega (arith, e)

end_is_told : EndsOr (Over Until) (End Until ∷ []) (λ e. ⊥)
end_is_told = refl

-- where no event may fire any more, and where as many have fired as may
none_may_fire : IsRunFrom halting [] 10 0 (standing 0) (End Events ∷ [])
unfolding IsRunFrom
none_may_fire = refl

all_have_fired : IsRest halting [] 10 2 (standing 2) (End Events ∷ [])
unfolding IsRunFrom
all_have_fired = refl

-- ---- a net without blocks: start reacts, and whatever event there may be

nobody : (b : ℕ) → IsBlock no_blocks b → ⊥
nobody b h = let l = h.least in let m = h.most in omega (arith, l, m)

abbrev after_start : State
after_start = after_reaction no_blocks 0 (first_state no_blocks) (λ b. []) (λ b. false) remembered

start_reacts : Reacts no_blocks [] 0 Start (first_state no_blocks) after_start (Started ∷ [])
start_reacts = record {
  values = λ b. [];
  active = λ b. false;
  memory = remembered;
  result = λ b inside. absurd (nobody b inside);
  active_are = λ b inside. absurd (nobody b inside);
  next = λ b inside. absurd (nobody b inside);
  leads = refl;
  observed = refl;
}

-- one event may fire, and there is none
nothing_happens : IsRun no_blocks [] 10 1 (Started ∷ End Empty ∷ [])
unfolding IsRunFrom
nothing_happens = record { outcome = Leads (Started ∷ []) after_start; is = start_reacts; goes_on = (End Empty ∷ [], refl, refl) }

abbrev one_event : State
one_event = record after_start { pending = record { events = event 3 0 0 ∷ []; programmed = 1 } }

abbrev after_event : State
after_event = after_reaction no_blocks 3 (taken one_event (event 3 0 0)) (λ b. []) (λ b. false) remembered

event_reacts : Reacts no_blocks [] 3 Start (taken one_event (event 3 0 0)) after_event (Started ∷ [])
event_reacts = record {
  values = λ b. [];
  active = λ b. false;
  memory = remembered;
  result = λ b inside. absurd (nobody b inside);
  active_are = λ b inside. absurd (nobody b inside);
  next = λ b inside. absurd (nobody b inside);
  leads = refl;
  observed = refl;
}

-- one event is pending, and two may fire: it does, and then none is pending
one_fires : IsRunFrom no_blocks [] 10 2 one_event (Started ∷ End Empty ∷ [])
unfolding IsRunFrom
one_fires = record { outcome = Leads (Started ∷ []) after_event; is = event_reacts; goes_on = (End Empty ∷ [], refl, refl) }

stands_there : Reachable no_blocks [] 10 1 after_start (Started ∷ [])
stands_there = record { first = after_start; at_start = Started ∷ []; later = []; started = start_reacts; reaches = here; observed = refl }

over : Finish no_blocks [] 10 1 after_start (ByEnd Empty) (Started ∷ End Empty ∷ [])
over = ended after_start Empty (Started ∷ []) stands_there refl

-- ---- counts

-- of block b as many as b: the sum is 3, all together are 10
abbrev counted : State
counted = record (standing 0) { activations = λ b. b }

sum_counted : activations_of_kind counting counted Summation ≡ 3
sum_counted = refl

all_counted : all_activations counting counted ≡ 10
all_counted = refl

-- ---- what is pending in a run

-- an event may be due at once, and by one tick less than 2 to the 31 later
due_at_once : IsAhead counting 5 (event 5 0 1)
due_at_once = record { not_start = lit≤ tt; source = lit< tt; not_past = lit≤ tt; near = lit< tt }

too_far : IsAhead counting 5 (event 2147483653 0 1) → ⊥
too_far h = let near = h.near in omega (arith, near)

-- source 3 for date 4 and then source 1 for date 5
in_their_order : numbered_anew ((4, 3) ∷ (5, 1) ∷ []) ≡ record { events = event 5 1 1 ∷ event 4 0 3 ∷ []; programmed = 2 }
in_their_order = refl

one_date : Rises 4 ((4, 3) ∷ (4, 1) ∷ [])
one_date = (lit≤ tt, (lit≤ tt, tt))

dates_fall : Rises 4 ((9, 3) ∷ (5, 1) ∷ []) → ⊥
dates_fall h = omega (arith, h.1.0)
