-- What a table says of what is observed of a run.
use Rattle.std.specs.Prelude.{◌≡◌, ℕ, ◌+◌, ◌-◌, ◌<◌, true, ℤ, pos, List}
use Rattle.std.specs.List.{AllByRecursion}
use Rattle.sci_base.specs.declared.observation.EndWord.{EndWord}
use Rattle.sci_base.specs.declared.observation.Obs.{Obs}
use Rattle.sci_base.specs.declared.observation.Obs.TheVariants.{Val, End, Stop}
use Rattle.sci_base.specs.declared.observation.StopWord.{StopWord}
use Rattle.sci_base.specs.declared.observation.StopWord.TheVariants.{Overflow, Zero}
use Rattle.sci_base.specs.Lists.{at}
use Rattle.sci_forms.specs.Ports.{before, total}
use Rattle.sci_kinds.specs.Table.{state_len}
use Rattle.sci_net.specs.Parts.{Parts, IsBlock, spec_of}
use Rattle.sci_reaction.specs.Memory.{Memory}
use Rattle.sci_run.specs.Observed.{is_header}
use Rattle.sci_ranges_base.specs.Intervals.{IsIn, IsInSome, range_at}
use Rattle.sci_ranges_rules.specs.Rules.{state_range}
use Rattle.sci_ranges_reads.specs.Live.{IsPossible}
use Rattle.sci_ranges.specs.Table.{Table, held_range}

-- element e of output p of a block, both from 1, among all elements of its outputs, from 0
abbrev pub element_among : Parts → (block port element : ℕ) → ℕ
element_among n b p e = before (spec_of n b).outs (p - 1) + (e - 1)

-- a value is one of those that its element may show, of a block that may act; and a stop is listed
pub data IsTold (n : Parts) (t : Table) : Obs → Type 0 where
  told_header : (o : Obs) → is_header o ≡ true → IsTold n t o
  told_value : (b p e : ℕ) (v : ℤ) → IsPossible n t.dead b → IsInSome (range_at (t.shows b) (element_among n b p e)) v
      → IsTold n t (Val (pos b) (pos p) (pos e) v)
  told_end : (word : EndWord) → IsTold n t (End word)
  told_stop : (b : ℕ) (word : StopWord) → IsBlock n b → t.stops b word ≡ true → IsTold n t (Stop word (pos b) (pos 0))

-- each of these
abbrev pub AreTold : Parts → Table → List Obs → Type 0
AreTold n t os = AllByRecursion (IsTold n t) os

-- it is no stop by an overflow or a division by 0
abbrev pub IsNoFault : Obs → Type 0
IsNoFault (Stop Overflow block port) = ⊥
IsNoFault (Stop Zero block port) = ⊥
IsNoFault _ = Unit {0}

abbrev pub AreNoFaults : List Obs → Type 0
AreNoFaults os = AllByRecursion IsNoFault os

-- each value that a memory holds, and each of a state, is one of the table's
pub record IsHeld (n : Parts) (t : Table) (m : Memory) : Type 0 where
  pub held : (b e : ℕ) → IsBlock n b → e < total (spec_of n b).outs → IsInSome (held_range n t b e) (at (m.held b) e)
  pub states : (b k : ℕ) → IsBlock n b → k < state_len (spec_of n b) → IsIn (state_range (t.states b) k) (at (m.state b) k)
