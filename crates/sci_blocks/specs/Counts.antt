-- Counts of ports of each class, and tallies of the numbers of port blocks.
use Rattle.std.specs.Prelude.{◌≡◌, ℕ, ◌+◌, ◌<◌, ◌^◌, List, length, nat_lt, filter, Option, Some, None, slice_index, IfSome}
use Rattle.sci_base.specs.Plain.{Fields}
use Rattle.sci_blocks.specs.declared.class.PortClass.{PortClass}
use Rattle.sci_blocks.specs.declared.class.PortClass.TheVariants.{Input, Output, ActivationInput, ActivationOutput}
use Rattle.sci_blocks.specs.declared.counts.PortCounts.{PortCounts}
use Rattle.sci_blocks.specs.declared.tally.NumberTally.{NumberTally}
use Rattle.sci_blocks.specs.Ports.{times, least, least_of}

abbrev pub no_counts : PortCounts
no_counts = record { ins = 0; outs = 0; evtin = 0; evtout = 0 }

abbrev pub counts_of : Fields → PortCounts
counts_of f = record { ins = length f.ins; outs = length f.outs; evtin = f.evtin; evtout = f.evtout }

abbrev pub count_in : PortCounts → PortClass → ℕ
count_in p Input = p.ins
count_in p Output = p.outs
count_in p ActivationInput = p.evtin
count_in p ActivationOutput = p.evtout

-- the lesser of two numbers that may be missing
abbrev pub lesser : Option ℕ → Option ℕ → Option ℕ
lesser None o = o
lesser (Some n) o = Some (least_of n o)

-- a tally together with the numbers that are still to come counts the whole
pub record IsTallied (t : NumberTally) (count : ℕ) (rest whole : List ℕ) : Type 0 where
  pub len : length t.times.items ≡ count
  pub times : (k : ℕ) → k < count → slice_index t.times.items k + times (k + 1) rest ≡ times (k + 1) whole
  pub least : lesser t.least (least (filter (λ n. nat_lt count n) rest)) ≡ least (filter (λ n. nat_lt count n) whole)
  pub fits : IfSome t.least (λ n. n < 2 ^ 63)
