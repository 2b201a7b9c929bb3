-- Schedules and what they are made of, worked out by hand.
use Rattle.std.proofs.Common.{◌≡◌, ◌<◌, ℕ, Bool, true, false, inl, inr, ⊎_elim, pos, List, [], ◌∷◌, Contains, codes, slice_index_or, refl, sym, subst, lit≤, lit<, arith, true≢false}
use Rattle.std.specs.Fmt.{digits}
use Rattle.sci_base.specs.Plain.{Violation}
use Rattle.sci_base.specs.declared.refusal.Rule.TheVariants.{AlgebraicLoop}
use Rattle.sci_loop.specs.declared.table.DepTable.{DepTable}
use Rattle.sci_loop.specs.Table.{Needs}
use Rattle.sci_net.specs.declared.Source.TheVariants.{Start, Port}
use Rattle.sci_net.specs.Parts.{Parts, numbered}
use Rattle.sci_reaction.specs.Links.{Feeds, IsConstant, IsSource}
use Rattle.sci_reaction.specs.Active.{seeded, passed, Reaches, IsAlways, set_off, Possible}
use Rattle.sci_reaction.specs.Depends.{Conditions, Depends}
use Rattle.sci_reaction.specs.Schedule.{Guard, Entry}
use Rattle.sci_inherit.specs.Followers.{comes, IsHeir}
use Rattle.sci_inherit.specs.ByBlock.{ByBlock, AreByBlock}
use Rattle.sci_inherit.specs.Live.{IsLive, FedFrom}
use Rattle.sci_inherit.specs.Origins.{Origins, AreOrigins}
use Rattle.sci_dep.specs.Tables.{AreWaits, ArePossible, IsTableOf}
use Rattle.sci_sched.specs.Size.{entry_count, guard_count, size_of}
use Rattle.sci_sched.specs.Text.{source_text, guard_text, entry_text, row_text, plan_text}
use Rattle.sci_sched.specs.Answer.{AreLoopFree, IsPlan, source_numbers, loop_violation, BreaksLength}
use Rattle.sci_examples.proofs.Blocks.{wire, feed, branch, constant, sum, gain, net_of, counting, branching}
use Rattle.sci_examples.proofs.Reactions.{tick, no_feedthrough, counter_possible}

-- ---- sizes and texts

abbrev entry : ℕ → Bool → List Guard → Entry
entry b always guards = record { block = b; depth = 1; always = always; mask = 0; guards = guards }

abbrev guard : ℕ → ℕ → Guard
guard b p = record { block = b; port = p; mask = 0 }

-- two always active blocks, and one at either branch of 3
abbrev rows : List (List Entry)
rows = (entry 1 true [] ∷ entry 2 true [] ∷ []) ∷ (entry 4 false (guard 3 1 ∷ guard 3 2 ∷ []) ∷ []) ∷ []

three_entries : entry_count rows ≡ 3
three_entries = refl

two_guards : guard_count rows ≡ 2
two_guards = refl

five_in_all : size_of rows ≡ 5
five_in_all = refl

start_line : source_text Start ≡ codes "source start\n"
unfolding source_text
start_line = refl

source_line : source_text (Port (branch 4 2)) ≡ codes "source 4.2\n"
unfolding source_text digits
source_line = refl

always_line : entry_text (entry 12 true []) ≡ codes "12 always\n"
unfolding entry_text guard_text digits
always_line = refl

guarded_line : entry_text (entry 4 false (guard 3 1 ∷ guard 3 2 ∷ [])) ≡ codes "4 3.1 3.2\n"
unfolding entry_text guard_text digits
guarded_line = refl

plan_lines : plan_text (Start ∷ tick ∷ []) rows ≡ codes "source start\n1 always\n2 always\nsource 1.1\n4 3.1 3.2\n"
unfolding row_text source_text entry_text guard_text digits
plan_lines = refl

-- ---- loops

start_numbers : source_numbers Start ≡ pos 0 ∷ pos 0 ∷ []
start_numbers = refl

-- of blocks at the places 5 to 8
loop_told : loop_violation (record counting { paths = (5 ∷ []) ∷ (6 ∷ []) ∷ (7 ∷ []) ∷ (8 ∷ []) ∷ [] }) tick (3 ∷ 4 ∷ [])
    ≡ record { rule = AlgebraicLoop; place = 7 ∷ []; detail = pos 1 ∷ pos 1 ∷ pos 3 ∷ pos 4 ∷ [] }
loop_told = refl

-- 1 a constant; 2 the sum of 1 and 3; 3 a gain of 2: a loop at start, the first source
abbrev looped : Parts
looped = net_of (constant (pos 1) ∷ sum ∷ gain (pos 1) ∷ []) ([] ∷ (wire 1 1 ∷ wire 3 1 ∷ []) ∷ (wire 2 1 ∷ []) ∷ []) ([] ∷ [] ∷ [] ∷ [])

-- no source is before the first
none_before : AreLoopFree looped 0
none_before i l = absurd (omega (arith, l))

-- rows that are short enough aren't too long
not_both : (n : Parts) (v : Violation) (rows : List (List Entry)) → IsPlan n rows → (b : BreaksLength n v) → b.rows ≡ rows → ⊥
not_both n v rows p b e = let long = subst (λ (r : List (List Entry)). 262144 < size_of r) e b.long in let short = p.short in omega (arith, long, short)

-- ---- what waits for what

condition_fed : Feeds branching (feed 1) 3
condition_fed =
    record { input = 1; within = record { block = record { least = lit≤ tt; most = lit≤ tt }; least = lit≤ tt; most = lit≤ tt }; fed = (0, lit< tt, refl) }

sensor_fed : Feeds branching (feed 1) 2
sensor_fed =
    record { input = 1; within = record { block = record { least = lit≤ tt; most = lit≤ tt }; least = lit≤ tt; most = lit≤ tt }; fed = (0, lit< tt, refl) }

branch_feeds : Feeds branching (branch 3 1) 4
branch_feeds =
    record { input = 1; within = record { block = record { least = lit≤ tt; most = lit≤ tt }; least = lit≤ tt; most = lit≤ tt }; fed = (0, lit< tt, refl) }

reached : Reaches branching (branch 3 1) 5
reached =
    passed 4 5 (seeded 4 branch_feeds) (record { some_input = lit< tt; no_activation_input = refl })
    (record { input = 1; within = record { block = record { least = lit≤ tt; most = lit≤ tt }; least = lit≤ tt; most = lit≤ tt }; from = refl })

reached_condition : Conditions branching 3 5
reached_condition = record { sync = refl; branch = 1; reaches = reached }

sensed : Depends branching tick 3 2
sensed = record {
  possible = set_off 3 condition_fed;
  on_possible = set_off 2 sensor_fed;
  waits = inl (record {
    input = 1;
    within = record { block = record { least = lit≤ tt; most = lit≤ tt }; least = lit≤ tt; most = lit≤ tt };
    from = refl;
    through = refl;
  });
}

-- the condition waits for the sensor, and the gain for the condition, by a list for each block
waits_for_sensor : (w : List (List ℕ)) → AreWaits branching w → Contains (numbered [] w 3) 2
waits_for_sensor w h = (h.exactly 3 2).1 sensed.waits

waits_for_condition : (w : List (List ℕ)) → AreWaits branching w → Contains (numbered [] w 5) 3
waits_for_condition w h = (h.exactly 5 3).1 (inr reached_condition)

-- each block has a list, in which the least number comes first
no_lists : AreWaits branching [] → ⊥
no_lists h = omega (arith, h.enough)

falling_list : AreWaits counting ((3 ∷ 2 ∷ []) ∷ [] ∷ [] ∷ [] ∷ []) → ⊥
falling_list h = let l = h.rising 1 0 (lit< tt) in omega (arith, l)

-- the delay waits for nothing, since its input has no feedthrough
delay_waits_not : (w : List (List ℕ)) → AreWaits counting w → Contains (numbered [] w 4) 3 → ⊥
delay_waits_not w h c = ⊎_elim (λ u. no_feedthrough u.input u.through) (λ k. true≢false (sym k.sync)) ((h.exactly 4 3).0 c)

-- the counter at the first branch is possible
may_be_counter : (bs : List ℕ) → ArePossible branching tick bs → Contains bs 4
may_be_counter bs h = (h 4).1 counter_possible

table_has_counter : (t : DepTable) → IsTableOf branching tick t → Contains t.members.items 4
table_has_counter t h = (h.members 4).1 counter_possible

needed_is_possible : (t : DepTable) → IsTableOf branching Start t → Needs t 3 2 → Possible branching Start 2
needed_is_possible t h needs = ((h.needs 3 2).0 needs).on_possible

needs_sensor : (t : DepTable) → IsTableOf branching tick t → Needs t 3 2
needs_sensor t h = (h.needs 3 2).1 sensed

-- ---- what activates what

-- by block, and then by input
block_first : comes (record { block = 1; input = 2 }) (record { block = 2; input = 1 }) ≡ true
block_first = refl

input_then : comes (record { block = 2; input = 2 }) (record { block = 2; input = 1 }) ≡ false
input_then = refl

-- a delay inherits nothing from what supplies it
delay_is_no_heir : IsHeir counting 3 4 → ⊥
delay_is_no_heir h = omega (arith, h.inherits.no_activation_input)

-- each block has its list, in which the least port comes first
no_reaching : AreByBlock counting (record { reaching = []; at_start = false ∷ false ∷ false ∷ false ∷ [] }) → ⊥
no_reaching h = omega (arith, h.reaching_long)

falling_ports : AreByBlock counting (record { reaching = (feed 2 ∷ feed 1 ∷ []) ∷ [] ∷ [] ∷ [] ∷ []; at_start = [] }) → ⊥
falling_ports h = true≢false (sym (h.reaching_rise 1 0 1 (feed 2) (lit< tt) (lit< tt)))

-- the counter at the first branch may be activated by the timer, which feeds the sensor
timer_is_source : IsSource branching tick
timer_is_source = (record { block = record { least = lit≤ tt; most = lit≤ tt }; least = lit≤ tt; most = lit≤ tt }, refl)

counter_live : IsLive branching 4
counter_live = record { source = tick; is_source = timer_is_source; possible = counter_possible }

fed_by_timer : FedFrom branching 1 2
fed_by_timer = record { other = λ s. true≢false (sym s); feeds = record { port = 1; feeds = sensor_fed } }

-- the timer, which is source 1, feeds the second activation input of 7
second_input_fed : (o : Origins) → AreOrigins branching o → Contains (slice_index_or o.feeding 1 []) (record { block = 7; input = 2 })
second_input_fed o h = (h.feeding_are 1 (record { block = 7; input = 2 }) (lit< tt)).1 (0, lit< tt, refl)

-- the gain is reached by the branch, though it isn't fed by it
reaches_gain : (r : ByBlock) → AreByBlock branching r → Contains (numbered [] r.reaching 5) (branch 3 1)
reaches_gain r h = (h.reaching_are 5 (branch 3 1)).1 reached

-- start activates the sum, which inherits from a constant
constant_is : IsConstant counting 2
constant_is = record { block = record { least = lit≤ tt; most = lit≤ tt }; no_input = refl; no_activation_input = refl }

sum_at_start : IsAlways counting Start 3
sum_at_start =
    passed 2 3 (seeded 2 constant_is) (record { some_input = lit< tt; no_activation_input = refl })
    (record { input = 1; within = record { block = record { least = lit≤ tt; most = lit≤ tt }; least = lit≤ tt; most = lit≤ tt }; from = refl })

starts_sum : (r : ByBlock) → AreByBlock counting r → numbered false r.at_start 3 ≡ true
starts_sum r h = (h.at_start_is 3).1 sum_at_start

-- the output of the timer is no branch
timer_is_none : (o : Origins) → AreOrigins branching o → Contains (numbered [] o.branches 3) (feed 1) → ⊥
timer_is_none o h c = true≢false (sym ((h.branches_are 3 (feed 1)).0 c).1)

-- a branch of the condition reaches the gain
onward_to_gain : (o : Origins) → AreOrigins branching o → Contains (slice_index_or o.onward 3 []) 5
onward_to_gain o h = (h.onward_are 3 5).1 reached_condition
