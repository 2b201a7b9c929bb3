-- The text of a table of ranges: a line for each range, by block, port and element, counted from 1.
use Rattle.std.specs.Prelude.{ℕ, zero, suc, ◌+◌, Bool, true, false, ◌&&◌, ◌||◌, if◌then◌else◌, pos, ℤ, List, [], ◌∷◌, ◌++◌, length, codes, Option, Some, None}
use Rattle.sci_base.specs.Fit.{int_eq}
use Rattle.sci_base.specs.declared.observation.Obs.TheVariants.{Stop}
use Rattle.sci_base.specs.declared.observation.StopWord.{StopWord}
use Rattle.sci_base.specs.declared.observation.StopWord.TheVariants.{Overflow, Zero, Input}
use Rattle.sci_forms.specs.declared.ports.Port.{Port}
use Rattle.sci_forms.specs.Ports.{elements}
use Rattle.sci_kinds.specs.Table.{state_len}
use Rattle.sci_net.specs.Parts.{Parts, spec_of}
use Rattle.sci_trace.specs.Lines.{numbers, line}
use Rattle.sci_ranges_base.specs.declared.interval.Interval.{Interval}
use Rattle.sci_ranges_base.specs.Intervals.{hull, range_at}
use Rattle.sci_ranges_rules.specs.Rules.{state_range}
use Rattle.sci_ranges.specs.Table.{Table, held_range}

-- ---- one element

abbrev pub interval_line : List ℕ → List ℤ → Interval → List ℕ
interval_line word place i = word ++ numbers (place ++ i.least ∷ i.greatest ∷ [])

abbrev pub same_interval : Interval → Interval → Bool
same_interval i j = int_eq i.least j.least && int_eq i.greatest j.greatest

-- what is shown, where ever anything is
abbrev pub shown_text : List ℤ → Option Interval → List ℕ
shown_text place None = []
shown_text place (Some i) = interval_line (codes "range") place i

-- what is held, where it isn't the same
abbrev pub held_text : List ℤ → Option Interval → Option Interval → List ℕ
held_text place shown None = []
held_text place None (Some h) = interval_line (codes "held") place h
held_text place (Some i) (Some h) = if same_interval i h then [] else interval_line (codes "held") place h

-- element `element` of output `port`, which is element `at` of all, from 0
abbrev pub element_text : Parts → Table → (block port element at : ℕ) → List ℕ
element_text n t b p e at =
    let place = pos b ∷ pos p ∷ pos e ∷ [] in
    shown_text place (range_at (t.shows b) at) ++ held_text place (range_at (t.shows b) at) (held_range n t b at)

-- ---- all elements

-- so many elements of an output, from element `element` on, which is element `at` of all
abbrev pub elements_text : Parts → Table → (block port element at count : ℕ) → List ℕ
elements_text n t b p e at zero = []
elements_text n t b p e at (suc k) = element_text n t b p e at ++ elements_text n t b p (e + 1) (at + 1) k

abbrev pub outputs_text : Parts → Table → (block port at : ℕ) → List Port → List ℕ
outputs_text n t b p at [] = []
outputs_text n t b p at (o ∷ os) = elements_text n t b p 1 at (elements o) ++ outputs_text n t b (p + 1) (at + elements o) os

abbrev pub block_text : Parts → Table → ℕ → List ℕ
block_text n t b = outputs_text n t b 1 0 (spec_of n b).outs

-- the texts of f b, f (b + 1) and so on, so many
abbrev pub of_each : (ℕ → List ℕ) → (from count : ℕ) → List ℕ
of_each f b zero = []
of_each f b (suc k) = f b ++ of_each f (b + 1) k

abbrev pub ranges_text : Parts → Table → List ℕ
ranges_text n t = of_each (block_text n t) 1 (length n.specs)

-- ---- states

-- the hull of the intervals of values 0 to k
abbrev pub state_hull : List Interval → ℕ → Interval
state_hull xs zero = state_range xs 0
state_hull xs (suc k) = hull (state_hull xs k) (state_range xs (suc k))

abbrev pub state_text : Table → ℕ → ℕ → List ℕ
state_text t b zero = []
state_text t b (suc k) = interval_line (codes "state") (pos b ∷ []) (state_hull (t.states b) k)

abbrev pub block_state : Parts → Table → ℕ → List ℕ
block_state n t b = state_text t b (state_len (spec_of n b))

abbrev pub states_text : Parts → Table → List ℕ
states_text n t = of_each (block_state n t) 1 (length n.specs)

-- ---- stops, idle blocks, and the last word

-- the line of a stop is that of a trace
abbrev pub stop_line : Table → ℕ → StopWord → List ℕ
stop_line t b w = if t.stops b w then line (Stop w (pos b) (pos 0)) else []

abbrev pub block_stops : Table → ℕ → List ℕ
block_stops t b = stop_line t b Input ++ (stop_line t b Overflow ++ stop_line t b Zero)

abbrev pub stops_text : Parts → Table → List ℕ
stops_text n t = of_each (block_stops t) 1 (length n.specs)

abbrev pub idle_line : (ℕ → Bool) → ℕ → List ℕ
idle_line acts b = if acts b then [] else codes "idle" ++ numbers (pos b ∷ [])

abbrev pub idle_text : Parts → (ℕ → Bool) → List ℕ
idle_text n acts = of_each (idle_line acts) 1 (length n.specs)

-- some block of the first n may stop by an overflow or a zero
abbrev pub may_stop : Table → ℕ → Bool
may_stop t zero = false
may_stop t (suc k) = may_stop t k || (t.stops (k + 1) Overflow || t.stops (k + 1) Zero)

abbrev pub is_open : Parts → Table → Bool
is_open n t = may_stop t (length n.specs)

abbrev pub last_word : Bool → List ℕ
last_word false = codes "safe\n"
last_word true = codes "open\n"

-- all that is told, where these blocks may act
abbrev pub table_text : Parts → Table → (ℕ → Bool) → List ℕ
table_text n t acts = ranges_text n t ++ (states_text n t ++ (stops_text n t ++ (idle_text n acts ++ last_word (is_open n t))))
