-- What is saved of a run, worked out by hand.
use Rattle.std.proofs.Common.{◌≡◌, ℕ, true, false, pos, negsuc, [], ◌∷◌, codes, refl, lit≤, lit<, arith}
use Rattle.std.specs.Fmt.{digits}
use Rattle.sci_base.specs.declared.Ty.TheVariants.{I32}
use Rattle.sci_net.specs.Parts.{Parts}
use Rattle.sci_pending.specs.Pending.{Event}
use Rattle.sci_reaction.specs.Memory.{Columns}
use Rattle.sci_save.specs.Saved.{Saved, memory_of}
use Rattle.sci_save.specs.Bounds.{from_to, of_type, is_within, state_bounds, held_bounds, cursor_bounds}
use Rattle.sci_save.specs.Valid.{AreCursors, IsNear, AreOnce, ArePending, IsShaped}
use Rattle.sci_save.specs.Text.{row_text, rows_text, cursor_rows, event_text, head_text, saved_text}
use Rattle.sci_save.specs.Resumed.{state_of}
use Rattle.sci_examples.proofs.Blocks.{timer, delay, counter, sensor, taken_apart, net_of, counting}

-- 1 a timer; 2 a delay; 3 a sensor
abbrev sensing : Parts
sensing = net_of (timer ∷ delay ∷ sensor (pos 1) ∷ []) ([] ∷ [] ∷ [] ∷ []) ([] ∷ [] ∷ [] ∷ [])

-- two events have fired, the last reaction was at date 5; the sensor has taken one value; the timer is due at 6
abbrev image : Saved
image = record {
  fired = 2;
  now = 5;
  states = [] ∷ (pos 8 ∷ []) ∷ [] ∷ [];
  held = [] ∷ (pos 7 ∷ []) ∷ (pos 9 ∷ []) ∷ [];
  cursors = 0 ∷ 0 ∷ 1 ∷ [];
  pending = (6, 1) ∷ [];
}

-- ---- its text

head : head_text image ≡ codes "save 1\nat 2 5\n"
unfolding digits
head = refl

-- a block without numbers has no line
no_row : row_text (codes "state") 4 [] ≡ []
no_row = refl

two_numbers : row_text (codes "held") 4 (pos 7 ∷ negsuc 0 ∷ []) ≡ codes "held 4 7 -1\n"
unfolding digits
two_numbers = refl

-- blocks are counted from 1
second_row : rows_text (codes "state") 1 ([] ∷ (pos 8 ∷ []) ∷ []) ≡ codes "state 2 8\n"
unfolding digits
second_row = refl

-- of a sensor alone
cursors : cursor_rows (delay ∷ sensor (pos 1) ∷ []) (3 ∷ 4 ∷ []) ≡ [] ∷ (pos 4 ∷ []) ∷ []
cursors = refl

-- date, block and port
pending_line : event_text sensing (6, 1) ≡ codes "pend 6 1 1\n"
unfolding digits
pending_line = refl

whole : saved_text sensing image ≡ codes "save 1\nat 2 5\nstate 2 8\nheld 2 7\nheld 3 9\ncursor 3 1\npend 6 1 1\ndone\n"
unfolding saved_text digits
whole = refl

-- ---- its bounds

-- a counter to 10 stands at 0 to 9
counter_stands : state_bounds counter ≡ from_to (pos 0) (pos 9) ∷ []
counter_stands = refl

delay_stands : state_bounds delay ≡ of_type I32 ∷ []
delay_stands = refl

-- one element, and then two
three_held : held_bounds taken_apart ≡ of_type I32 ∷ of_type I32 ∷ of_type I32 ∷ []
three_held = refl

abbrev file : Columns
file = (pos 7 ∷ pos 8 ∷ []) ∷ (pos 9 ∷ []) ∷ []

-- all values of its column may have been taken
two_taken : cursor_bounds file (sensor (pos 1)) ≡ from_to (pos 0) (pos 2) ∷ []
two_taken = refl

no_cursor : cursor_bounds file delay ≡ []
no_cursor = refl

greatest_within : is_within (from_to (pos 0) (pos 9)) (pos 9) ≡ true
greatest_within = refl

above : is_within (from_to (pos 0) (pos 9)) (pos 10) ≡ false
above = refl

-- ---- what is valid

-- a cursor of a block that is no sensor
no_sensor : AreCursors (delay ∷ []) (1 ∷ []) → ⊥
no_sensor h = omega (arith, h.0 refl)

-- due by one tick less than 2 to the 31
near : IsNear counting 5 (2147483652, 1)
near = record { not_start = lit≤ tt; source = lit< tt; near = lit< tt }

too_far : IsNear counting 5 (2147483653, 1) → ⊥
too_far h = let l = h.near in omega (arith, l)

-- start is never pending
start_pending : IsNear counting 5 (6, 0) → ⊥
start_pending h = let l = h.not_start in omega (arith, l)

-- source 1 stands twice
twice : AreOnce ((5, 1) ∷ (6, 1) ∷ []) → ⊥
twice h = h.0.0 refl

-- due before the date of the last reaction
past : ArePending counting 5 ((4, 1) ∷ []) → ⊥
past h = let l = h.rises.0 in omega (arith, l)

-- more events than may fire, and a date behind the last one, with nothing pending
too_many_fired : IsShaped sensing (record image { fired = 1000001 }) → ⊥
too_many_fired h = let l = h.fired in omega (arith, l)

too_late : IsShaped sensing (record image { now = 4611686018427387905; pending = [] }) → ⊥
too_late h = let l = h.now in omega (arith, l)

-- ---- the state that it stands for

abbrev event : (date order source : ℕ) → Event
event date order source = record { date = date; order = order; source = source }

fired_saved : (state_of image).fired ≡ 2
fired_saved = refl

date_saved : (state_of image).now ≡ 5
date_saved = refl

pending_saved : (state_of image).pending.events ≡ event 6 0 1 ∷ []
pending_saved = refl

-- a halt doesn't end the run again
none_active : (state_of image).active 1 ≡ false
none_active = refl

state_saved : (memory_of image).state 2 ≡ pos 8 ∷ []
state_saved = refl

held_saved : (memory_of image).held 2 ≡ pos 7 ∷ []
held_saved = refl

taken_saved : (memory_of image).cursor 3 ≡ 1
taken_saved = refl
