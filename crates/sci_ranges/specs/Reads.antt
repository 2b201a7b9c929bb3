-- What goes into a block, by a table.
use Rattle.std.specs.Prelude.{◌≡◌, ℕ, ◌+◌, ◌-◌, ◌<◌, true, List, Option, Some, Contains}
use Rattle.sci_forms.specs.Form.{is_sensor}
use Rattle.sci_forms.specs.Ports.{elements, before}
use Rattle.sci_net.specs.declared.Feed.{Feed}
use Rattle.sci_net.specs.declared.Source.{Source}
use Rattle.sci_net.specs.Parts.{Parts, IsInput, input_of, spec_of, wire_of}
use Rattle.sci_reaction.specs.Active.{IsSync}
use Rattle.sci_reaction.specs.Memory.{Columns}
use Rattle.sci_ranges_base.specs.declared.interval.Interval.{Interval}
use Rattle.sci_ranges_base.specs.declared.masks.Masks.{Masks}
use Rattle.sci_ranges_base.specs.Intervals.{meet, range_at}
use Rattle.sci_ranges_rules.specs.Rules.{taking}
use Rattle.sci_ranges_reads.specs.Live.{MayAct, IsLive}
use Rattle.sci_ranges_reads.specs.Reading.{IsShown, IsUnder, AreMasksAt}
use Rattle.sci_ranges.specs.Columns.{sensed_range}
use Rattle.sci_ranges.specs.Table.{Table, held_range}

-- element d of input k of c, among all elements of its feeder's outputs
abbrev pub fed_element : Parts → (block input element : ℕ) → ℕ
fed_element n c k d = before (spec_of n (wire_of n c k).block).outs ((wire_of n c k).port - 1) + d

-- wherever c acts, it does so by branch q alone
abbrev pub ActsUnder : Parts → Table → ℕ → Feed → Type 0
ActsUnder n t c q = (s : Source) → IsLive n t.dead s → MayAct n t.dead s c → IsUnder n t.dead s c q

-- What element d of input k of c may be where c acts: what the feeder holds; what it shows, where it acts or has acted; and where the feeder is that of
-- the condition under which alone c acts, the numbers on which the condition takes its branch.
pub data Reads (n : Parts) (t : Table) (c k d : ℕ) : Option Interval → Type 0 where
  holds : Reads n t c k d (held_range n t (wire_of n c k).block (fed_element n c k d))
  shows : IsShown n t.dead c k → Reads n t c k d (range_at (t.shows (wire_of n c k).block) (fed_element n c k d))
  under : (q : Feed) (o : Option Interval) → Reads n t c k d o → IsSync n q.block → ActsUnder n t c q → wire_of n q.block 1 ≡ wire_of n c k → d ≡ 0
      → Reads n t c k d (meet o (Some (taking (spec_of n q.block) q.port)))

-- an interval for each element of the inputs, one after the other; to a sensor what its column has
pub record Enters (n : Parts) (i : Columns) (t : Table) (c : ℕ) (us : List (Option Interval)) : Type 0 where
  pub inputs : (k d : ℕ) → IsInput n c k → d < elements (input_of n c k) → Reads n t c k d (range_at us (before (spec_of n c).ins (k - 1) + d))
  pub sensed : is_sensor (spec_of n c).kind ≡ true → range_at us 0 ≡ Some (sensed_range i (spec_of n c))

-- masks for each live source that may activate c
abbrev pub HaveMasks : Parts → Table → ℕ → List Masks → Type 0
HaveMasks n t c ms =
    (s : Source) → IsLive n t.dead s → MayAct n t.dead s c → (b : Masks) × Contains ms b × AreMasksAt n t.dead s c b
