-- What a table tells of the elements of a block: by the rule of its kind, and of sums and switches by what goes in with it too.
use Rattle.std.specs.Prelude.{◌≡◌, ℕ, suc, ◌+◌, ◌-◌, ◌<◌, Bool, true, List, length, Option, Some, option_and_then}
use Rattle.sci_forms.specs.Words.{size}
use Rattle.sci_net.specs.declared.Source.{Source}
use Rattle.sci_net.specs.declared.Wire.{Wire}
use Rattle.sci_net.specs.Parts.{Parts, IsInput, spec_of, wire_of}
use Rattle.sci_reaction.specs.Memory.{Columns}
use Rattle.sci_ranges_base.specs.declared.interval.Interval.{Interval}
use Rattle.sci_ranges_base.specs.declared.cells.Cells.{Cells}
use Rattle.sci_ranges_base.specs.declared.masks.Masks.{Masks}
use Rattle.sci_ranges_base.specs.Intervals.{meet, range_at}
use Rattle.sci_ranges_rules.specs.Rules.{cells, compared, exact_sums}
use Rattle.sci_ranges_refined.specs.Sums.{is_sum, sum_cells, keeps_sum, shrinks, adds_two, takes_difference, subtracted, either_input, leaking_sums, shifts_right, places_of, AddsAndSubtracts}
use Rattle.sci_ranges_refined.specs.Choices.{is_switch, taken_input, taken_place, taken_numbers, compares, known_truth, sum_of}
use Rattle.sci_ranges_reads.specs.Live.{MayAct, IsLive}
use Rattle.sci_ranges_reads.specs.Reading.{ActsToo}
use Rattle.sci_ranges.specs.Table.{Table}
use Rattle.sci_ranges.specs.Reads.{Enters}

-- wherever c acts, a acts too
abbrev pub ActsAlong : Parts → Table → (a c : ℕ) → Type 0
ActsAlong n t a c = (s : Source) → IsLive n t.dead s → MayAct n t.dead s c → ActsToo n t.dead s a c

abbrev pub first_output : ℕ → Wire
first_output b = record { block = b; port = 1 }

-- ---- towards

-- What a wire has is a part of what f gives, wherever c acts: the wire comes from f, or from a block that shrinks what its own wire has, such a part too.
pub data HasPart (n : Parts) (t : Table) (c f : ℕ) : Wire → Type 0 where
  given : ActsAlong n t f c → HasPart n t c f (first_output f)
  shrunk : (g : ℕ) → ActsAlong n t g c → shrinks (spec_of n g) ≡ true → HasPart n t c f (wire_of n g 1) → HasPart n t c f (first_output g)

-- of its two inputs, counted from 0, c adds up what f subtracts, and a part of the difference that f takes
pub record GoesTowards (n : Parts) (t : Table) (c f : ℕ) : Type 0 where
  pub adds : adds_two (spec_of n c) ≡ true
  pub takes : takes_difference (spec_of n f) ≡ true
  pub from : ℕ
  pub more : ℕ
  pub two : from + more ≡ 1
  pub same : wire_of n c (suc from) ≡ wire_of n f (suc (subtracted (spec_of n f)))
  pub part : HasPart n t c f (wire_of n c (suc more))

-- ---- leaking

-- c adds what its input k has, and subtracts that shifted right by block g, on its input l; both counted from 0
pub record Leaks (n : Parts) (t : Table) (c k l g : ℕ) : Type 0 where
  pub kept : IsInput n c (suc k)
  pub lost : IsInput n c (suc l)
  pub signs : AddsAndSubtracts (spec_of n c) k l
  pub shifts : shifts_right (spec_of n g) ≡ true
  pub along : ActsAlong n t g c
  pub shifted : wire_of n c (suc l) ≡ first_output g
  pub same : wire_of n g 1 ≡ wire_of n c (suc k)

-- ---- choosing

-- the second input of c has the truth of a comparison of two numbers, by block g
pub record LooksAt (n : Parts) (t : Table) (c g : ℕ) : Type 0 where
  pub along : ActsAlong n t g c
  pub comparing : compares (spec_of n g).kind ≡ true
  pub single : size (spec_of n g) ≡ 1
  pub condition : wire_of n c 2 ≡ first_output g

-- From an interval that has the value on a wire others that have it too, where switch c takes its first input, or its third: of that interval the numbers
-- on which it does, if the wire is its condition; and those that may compare so with the other ones, if its condition is a comparison of what the wire has.
pub data Keeps (n : Parts) (i : Columns) (t : Table) (c : ℕ) (first : Bool) (w : Wire) (o : Option Interval) : Option Interval → Type 0 where
  as_read : Keeps n i t c first w o o
  as_condition : (p : Option Interval) → Keeps n i t c first w o p → wire_of n c 2 ≡ w → Keeps n i t c first w o (option_and_then (taken_numbers (spec_of n c) first) p)
  as_compared : (g k : ℕ) (holds : Bool) (vs : List (Option Interval)) (p : Option Interval) → Keeps n i t c first w o p → LooksAt n t c g
      → known_truth (spec_of n c) first ≡ Some holds → k < 2 → wire_of n g (suc k) ≡ w → Enters n i t g vs
      → Keeps n i t c first w o (meet p (option_and_then (compared (spec_of n g) k holds) (range_at vs (1 - k))))

-- the first input of c, or its third, has what a sum of one element gives, by block g
pub record TakesSum (n : Parts) (t : Table) (c : ℕ) (first : Bool) (g : ℕ) : Type 0 where
  pub along : ActsAlong n t g c
  pub sum : is_sum (spec_of n g).kind ≡ true
  pub single : size (spec_of n g) ≡ 1
  pub input : wire_of n c (taken_input first) ≡ first_output g

-- An interval that has what a switch of one element takes, where it takes its first input, or its third: what it reads there, as its condition keeps it;
-- and less, where that is a sum, what comes of its inputs as the condition keeps these.
pub data HasTaken (n : Parts) (i : Columns) (t : Table) (c : ℕ) (us : List (Option Interval)) (first : Bool) : Option Interval → Type 0 where
  is_kept : (p : Option Interval) → Keeps n i t c first (wire_of n c (taken_input first)) (range_at us (taken_place first)) p → HasTaken n i t c us first p
  is_added : (g : ℕ) (vs : List (Option Interval)) (f : ℕ → Option Interval) (p : Option Interval) → HasTaken n i t c us first p → TakesSum n t c first g
      → Enters n i t g vs → ((j : ℕ) → j < length (spec_of n g).ins → Keeps n i t c first (wire_of n g (suc j)) (range_at vs j) (f j))
      → HasTaken n i t c us first (meet p ((sum_cells (spec_of n g) (sum_of (spec_of n g) f)).values))

-- what goes into such a switch, each of the two inputs as where it is taken
pub record AreTaken (n : Parts) (i : Columns) (t : Table) (c : ℕ) (us vs : List (Option Interval)) : Type 0 where
  pub switch : is_switch (spec_of n c).kind ≡ true
  pub single : size (spec_of n c) ≡ 1
  pub condition : range_at vs 1 ≡ range_at us 1
  pub taken : (first : Bool) → HasTaken n i t c us first (range_at vs (taken_place first))

-- ---- what is told

-- An interval that has the exact value of sum c at an element, from what goes in: what the inputs sum up to one by one; less, where the sum goes towards
-- a value, since it lies between that and the one that it comes from; and less, where it leaks, with the two inputs as one.
pub data HasSum (n : Parts) (i : Columns) (t : Table) (c : ℕ) (us : List (Option Interval)) (e : ℕ) : Option Interval → Type 0 where
  summed : HasSum n i t c us e (exact_sums (spec_of n c) us e)
  towards : (f : ℕ) (vs : List (Option Interval)) (o : Option Interval) → HasSum n i t c us e o → GoesTowards n t c f → Enters n i t f vs
      → keeps_sum (spec_of n f) vs e ≡ true → HasSum n i t c us e (meet o (either_input (spec_of n f) vs e))
  leaking : (k l g : ℕ) (o : Option Interval) → HasSum n i t c us e o → Leaks n t c k l g
      → HasSum n i t c us e (meet o (leaking_sums (spec_of n c) k l (places_of (spec_of n g)) us e))

-- what element e of c may be: what its rule tells, of a sum what such an interval is fitted to, and of a switch what its rule tells of inputs as they are taken
pub data Tells (n : Parts) (i : Columns) (t : Table) (c : ℕ) (ms : List Masks) (us : List (Option Interval)) (e : ℕ) : Cells → Type 0 where
  by_rule : Tells n i t c ms us e (cells (spec_of n c) (t.states c) ms us e)
  by_sum : (o : Option Interval) → is_sum (spec_of n c).kind ≡ true → HasSum n i t c us e o → Tells n i t c ms us e (sum_cells (spec_of n c) o)
  by_choice : (vs : List (Option Interval)) → AreTaken n i t c us vs → Tells n i t c ms us e (cells (spec_of n c) (t.states c) ms vs e)
