-- Small nets, worked out by hand.
use Rattle.std.specs.Prelude.{◌≡◌, ℕ, ℤ, pos, List, [], ◌∷◌, true, false}
use Rattle.sci_base.specs.declared.observation.StopWord.TheVariants.{Overflow}
use Rattle.sci_loop.specs.Loops.{IsLoop}
use Rattle.sci_forms.specs.declared.Kind.TheVariants.{Const, Summation, GainBlk, Dollar, ModuloCount, GatedDelay, EvtDly, IfThEl}
use Rattle.sci_forms.specs.declared.ports.Port.{Port}
use Rattle.sci_forms.specs.declared.spec.Spec.{Spec}
use Rattle.sci_net.specs.declared.Feed.{Feed}
use Rattle.sci_net.specs.declared.Wire.{Wire}
use Rattle.sci_net.specs.declared.Source.TheVariants.{Start, Port as Event}
use Rattle.sci_net.specs.Parts.{Parts}
use Rattle.sci_net.specs.Net.{IsNet}
use Rattle.sci_reaction.specs.Depends.{Depends, IsLoopFree}
use Rattle.sci_reaction.specs.Memory.{first_memory}
use Rattle.sci_reaction.specs.Result.{Reaction, Whole, Stopped}
use Rattle.sci_reaction.specs.Schedule.{Entry}
use Rattle.sci_reaction.specs.Pass.{pass, at_rest}

-- ---- blocks, with scalars of int32

abbrev pub scalar : Port
scalar = record { rows = pos 1; cols = pos 1; ty = pos 3 }

abbrev pub wire : ℕ → Wire
wire b = record { block = b; port = 1 }

abbrev pub feed : ℕ → Feed
feed b = record { block = b; port = 1 }

-- an event each tick
abbrev pub timer : Spec
timer = record { kind = EvtDly; params = pos 1 ∷ []; state = []; firing = pos 0 ∷ []; ins = []; outs = []; evtin = 1; evtout = 1; feed = [] }

abbrev pub condition : Spec
condition = record { kind = IfThEl; params = []; state = []; firing = []; ins = scalar ∷ []; outs = []; evtin = 1; evtout = 2; feed = true ∷ [] }

abbrev pub delay : Spec
delay = record { kind = Dollar; params = []; state = pos 0 ∷ []; firing = []; ins = scalar ∷ []; outs = scalar ∷ []; evtin = 1; evtout = 0; feed = false ∷ [] }

abbrev pub constant : ℤ → Spec
constant v = record { kind = Const; params = v ∷ []; state = []; firing = []; ins = []; outs = scalar ∷ []; evtin = 0; evtout = 0; feed = [] }

abbrev pub counter : Spec
counter = record { kind = ModuloCount; params = pos 5 ∷ []; state = pos 0 ∷ []; firing = []; ins = []; outs = scalar ∷ []; evtin = 1; evtout = 0; feed = [] }

-- the sum of two inputs, fitted by the mode
abbrev pub sum : ℤ → ℕ → Spec
sum mode evtin = record { kind = Summation; params = mode ∷ pos 1 ∷ pos 1 ∷ []; state = []; firing = []; ins = scalar ∷ scalar ∷ []; outs = scalar ∷ []; evtin = evtin; evtout = 0; feed = true ∷ true ∷ [] }

abbrev pub gain : ℕ → Spec
gain evtin = record { kind = GainBlk; params = pos 0 ∷ pos 1 ∷ []; state = []; firing = []; ins = scalar ∷ []; outs = scalar ∷ []; evtin = evtin; evtout = 0; feed = true ∷ [] }

-- its first input has no feedthrough, the second has
abbrev pub gate : Spec
gate = record { kind = GatedDelay; params = []; state = pos 0 ∷ []; firing = []; ins = scalar ∷ scalar ∷ []; outs = scalar ∷ []; evtin = 1; evtout = 0; feed = false ∷ true ∷ [] }

-- ---- loops

-- 1 a timer; 2 a condition on the delay's output, activated by the timer; 3 a delay of the constant, activated by the condition's first branch;
-- 4 a constant
abbrev pub delay_behind_condition : Parts
delay_behind_condition = record {
  specs = timer ∷ condition ∷ delay ∷ constant (pos 1) ∷ [];
  paths = (1 ∷ []) ∷ (2 ∷ []) ∷ (3 ∷ []) ∷ (4 ∷ []) ∷ [];
  wires = [] ∷ (wire 3 ∷ []) ∷ (wire 4 ∷ []) ∷ [] ∷ [];
  feeds = ((feed 1 ∷ []) ∷ []) ∷ ((feed 1 ∷ []) ∷ []) ∷ ((feed 2 ∷ []) ∷ []) ∷ [] ∷ [];
}

-- the delay has no feedthrough, but whether it is active depends on the condition, whose input is the delay's output
abbrev pub LoopThroughCondition : Type 0
LoopThroughCondition = IsLoop (Depends delay_behind_condition (Event (feed 1))) (2 ∷ 3 ∷ [])

-- 1 a timer; 2 a counter, activated by it; 3 the sum of 2 and 4, and 4 a gain of 3, which inherit their activation
abbrev pub gain_around_sum : Parts
gain_around_sum = record {
  specs = timer ∷ counter ∷ sum (pos 0) 0 ∷ gain 0 ∷ [];
  paths = (1 ∷ []) ∷ (2 ∷ []) ∷ (3 ∷ []) ∷ (4 ∷ []) ∷ [];
  wires = [] ∷ [] ∷ (wire 2 ∷ wire 4 ∷ []) ∷ (wire 3 ∷ []) ∷ [];
  feeds = ((feed 1 ∷ []) ∷ []) ∷ ((feed 1 ∷ []) ∷ []) ∷ [] ∷ [] ∷ [];
}

abbrev pub LoopOfFeedthrough : Type 0
LoopOfFeedthrough = IsLoop (Depends gain_around_sum (Event (feed 1))) (3 ∷ 4 ∷ [])

-- the same, but the sum is activated by the timer, and the gain by another timer, 5
abbrev pub gain_at_other_times : Parts
gain_at_other_times = record {
  specs = timer ∷ counter ∷ sum (pos 0) 1 ∷ gain 1 ∷ timer ∷ [];
  paths = (1 ∷ []) ∷ (2 ∷ []) ∷ (3 ∷ []) ∷ (4 ∷ []) ∷ (5 ∷ []) ∷ [];
  wires = [] ∷ [] ∷ (wire 2 ∷ wire 4 ∷ []) ∷ (wire 3 ∷ []) ∷ [] ∷ [];
  feeds = ((feed 1 ∷ []) ∷ []) ∷ ((feed 1 ∷ []) ∷ []) ∷ ((feed 1 ∷ []) ∷ []) ∷ ((feed 5 ∷ []) ∷ []) ∷ ((feed 5 ∷ []) ∷ []) ∷ [];
}

-- the cycle of the drawing is a loop at no source
abbrev pub NoLoopAtOtherTimes : Type 0
NoLoopAtOtherTimes = IsLoopFree gain_at_other_times Start × IsLoopFree gain_at_other_times (Event (feed 1)) × IsLoopFree gain_at_other_times (Event (feed 5))

-- it keeps all that the laws ask of a net
abbrev pub OtherTimesIsNet : Type 0
OtherTimesIsNet = IsNet gain_at_other_times

-- 1 a timer; 2 a gated delay, activated by it; 3 the constant 1; 4 the sum of 2 and 3, which inherits. The delay's first input is fed by the
-- sum, its second by the constant.
abbrev pub sum_into_first : Parts
sum_into_first = record {
  specs = timer ∷ gate ∷ constant (pos 1) ∷ sum (pos 0) 0 ∷ [];
  paths = (1 ∷ []) ∷ (2 ∷ []) ∷ (3 ∷ []) ∷ (4 ∷ []) ∷ [];
  wires = [] ∷ (wire 4 ∷ wire 3 ∷ []) ∷ [] ∷ (wire 2 ∷ wire 3 ∷ []) ∷ [];
  feeds = ((feed 1 ∷ []) ∷ []) ∷ ((feed 1 ∷ []) ∷ []) ∷ [] ∷ [] ∷ [];
}

-- the sum feeds an input without feedthrough, so it waits for the delay alone
abbrev pub NoLoopIntoFirst : Type 0
NoLoopIntoFirst = IsLoopFree sum_into_first (Event (feed 1))

-- the same, with the delay's inputs exchanged
abbrev pub sum_into_second : Parts
sum_into_second = record sum_into_first { wires = [] ∷ (wire 3 ∷ wire 4 ∷ []) ∷ [] ∷ (wire 2 ∷ wire 3 ∷ []) ∷ [] }

abbrev pub LoopIntoSecond : Type 0
LoopIntoSecond = IsLoop (Depends sum_into_second (Event (feed 1))) (2 ∷ 4 ∷ [])

-- ---- reactions

-- a block of this depth that is active whatever the values are, with these activation inputs fed by the source
abbrev pub always : ℕ → ℕ → ℕ → Entry
always b depth mask = record { block = b; depth = depth; always = true; mask = mask; guards = [] }

-- 1 a timer; 2 the constant 1; 3 the sum of 2 and 4; 4 a delay of 3, activated by the timer
abbrev pub counting : Parts
counting = record {
  specs = timer ∷ constant (pos 1) ∷ sum (pos 0) 0 ∷ delay ∷ [];
  paths = (1 ∷ []) ∷ (2 ∷ []) ∷ (3 ∷ []) ∷ (4 ∷ []) ∷ [];
  wires = [] ∷ [] ∷ (wire 2 ∷ wire 4 ∷ []) ∷ (wire 3 ∷ []) ∷ [];
  feeds = ((feed 1 ∷ []) ∷ []) ∷ [] ∷ [] ∷ ((feed 1 ∷ []) ∷ []) ∷ [];
}

abbrev pub value_of : Reaction → ℕ → List ℤ
value_of (Whole y) b = y b
value_of (Stopped c word) b = []

abbrev pub start_of_counting : Reaction
start_of_counting = pass counting (first_memory counting) [] (always 2 1 0 ∷ always 3 2 0 ∷ []) (at_rest (first_memory counting))

-- at start the constant is 1, the sum 1 + 0, and the delay holds its initial state
abbrev pub CountingStarts : Type 0
CountingStarts =
    (value_of start_of_counting 2 ≡ pos 1 ∷ []) × (value_of start_of_counting 3 ≡ pos 1 ∷ []) × (value_of start_of_counting 4 ≡ pos 0 ∷ [])

-- the greatest int32 plus 1, in the mode that stops
abbrev pub overflowing : Parts
overflowing = record {
  specs = constant (pos 2147483647) ∷ constant (pos 1) ∷ sum (pos 2) 0 ∷ [];
  paths = (1 ∷ []) ∷ (2 ∷ []) ∷ (3 ∷ []) ∷ [];
  wires = [] ∷ [] ∷ (wire 1 ∷ wire 2 ∷ []) ∷ [];
  feeds = [] ∷ [] ∷ [] ∷ [];
}

abbrev pub OverflowStops : Type 0
OverflowStops =
    pass overflowing (first_memory overflowing) [] (always 1 1 0 ∷ always 2 1 0 ∷ always 3 2 0 ∷ []) (at_rest (first_memory overflowing)) ≡ Stopped 3 Overflow
