-- Blocks with scalars of int32, and small nets of them.
use Rattle.std.proofs.Common.{ℕ, ℤ, pos, List, [], ◌∷◌, true, false}
use Rattle.sci_forms.specs.declared.Kind.TheVariants.{Const, Summation, GainBlk, Demux, AndLog, Dollar, ModuloCount, GatedDelay, Sensor, EvtDly, IfThEl, Halt}
use Rattle.sci_forms.specs.declared.ports.Port.{Port}
use Rattle.sci_forms.specs.declared.spec.Spec.{Spec}
use Rattle.sci_net.specs.declared.Feed.{Feed}
use Rattle.sci_net.specs.declared.Wire.{Wire}
use Rattle.sci_net.specs.Parts.{Parts}

-- ---- ports

abbrev pub scalar : Port
scalar = record { rows = pos 1; cols = pos 1; ty = pos 3 }

-- so many rows in one column
abbrev pub column : ℤ → Port
column rows = record { rows = rows; cols = pos 1; ty = pos 3 }

abbrev pub wire : ℕ → ℕ → Wire
wire b p = record { block = b; port = p }

abbrev pub branch : ℕ → ℕ → Feed
branch b p = record { block = b; port = p }

-- the first activation output of a block
abbrev pub feed : ℕ → Feed
feed b = branch b 1

-- ---- blocks

-- an event block with this delay, which fires first at this date
abbrev pub event_block : ℤ → ℤ → Spec
event_block delay first = record { kind = EvtDly; params = delay ∷ []; state = []; firing = first ∷ []; ins = []; outs = []; evtin = 1; evtout = 1; feed = [] }

-- an event each tick, from date 0 on
abbrev pub timer : Spec
timer = event_block (pos 1) (pos 0)

abbrev pub constant : ℤ → Spec
constant v = record { kind = Const; params = v ∷ []; state = []; firing = []; ins = []; outs = scalar ∷ []; evtin = 0; evtout = 0; feed = [] }

-- the sum of two inputs, which inherits its activation
abbrev pub sum : Spec
sum =
    record { kind = Summation; params = pos 0 ∷ pos 1 ∷ pos 1 ∷ []; state = []; firing = []; ins = scalar ∷ scalar ∷ []; outs = scalar ∷ []; evtin = 0; evtout = 0; feed = true ∷ true ∷ [] }

-- the same, but a sum that doesn't fit has no value
abbrev pub stopping_sum : Spec
stopping_sum = record sum { params = pos 2 ∷ pos 1 ∷ pos 1 ∷ [] }

-- twice its input, of one column of so many rows, which inherits its activation
abbrev pub gain : ℤ → Spec
gain rows =
    record { kind = GainBlk; params = pos 0 ∷ pos 2 ∷ []; state = []; firing = []; ins = column rows ∷ []; outs = column rows ∷ []; evtin = 0; evtout = 0; feed = true ∷ [] }

-- a delay by one activation, which holds 8 first
abbrev pub delay : Spec
delay = record { kind = Dollar; params = []; state = pos 8 ∷ []; firing = []; ins = scalar ∷ []; outs = scalar ∷ []; evtin = 1; evtout = 0; feed = false ∷ [] }

-- its first input has no feedthrough, the second has
abbrev pub gate : Spec
gate =
    record { kind = GatedDelay; params = []; state = pos 0 ∷ []; firing = []; ins = scalar ∷ scalar ∷ []; outs = scalar ∷ []; evtin = 1; evtout = 0; feed = false ∷ true ∷ [] }

-- counts from 0 to 9
abbrev pub counter : Spec
counter = record { kind = ModuloCount; params = pos 10 ∷ []; state = pos 0 ∷ []; firing = []; ins = []; outs = scalar ∷ []; evtin = 1; evtout = 0; feed = [] }

-- the values of a column of the input file
abbrev pub sensor : ℤ → Spec
sensor k = record { kind = Sensor; params = k ∷ []; state = []; firing = []; ins = []; outs = scalar ∷ []; evtin = 1; evtout = 0; feed = [] }

-- its first branch where the input is above 0, and else the second
abbrev pub condition : Spec
condition = record { kind = IfThEl; params = []; state = []; firing = []; ins = scalar ∷ []; outs = []; evtin = 1; evtout = 2; feed = true ∷ [] }

-- 1 where both of its activation inputs are activated, and else -1
abbrev pub and_logic : Spec
and_logic = record { kind = AndLog; params = []; state = []; firing = []; ins = []; outs = scalar ∷ []; evtin = 2; evtout = 0; feed = [] }

abbrev pub halt : Spec
halt = record { kind = Halt; params = []; state = []; firing = []; ins = []; outs = []; evtin = 1; evtout = 0; feed = [] }

-- three values in a column
abbrev pub three_values : Spec
three_values =
    record { kind = Const; params = pos 4 ∷ pos 5 ∷ pos 6 ∷ []; state = []; firing = []; ins = []; outs = column (pos 3) ∷ []; evtin = 0; evtout = 0; feed = [] }

-- takes a column of three apart into one of one and one of two
abbrev pub taken_apart : Spec
taken_apart =
    record { kind = Demux; params = []; state = []; firing = []; ins = column (pos 3) ∷ []; outs = column (pos 1) ∷ column (pos 2) ∷ []; evtin = 0; evtout = 0; feed = true ∷ [] }

-- ---- nets

abbrev pub net_of : List Spec → List (List Wire) → List (List (List Feed)) → Parts
net_of specs wires feeds = record { specs = specs; paths = []; wires = wires; feeds = feeds }

abbrev pub no_blocks : Parts
no_blocks = net_of [] [] []

-- 1 a timer; 2 the constant 1; 3 the sum of 2 and 4, which inherits; 4 a delay of 3, activated by the timer
abbrev pub counting : Parts
counting =
    net_of (timer ∷ constant (pos 1) ∷ sum ∷ delay ∷ []) ([] ∷ [] ∷ (wire 2 1 ∷ wire 4 1 ∷ []) ∷ (wire 3 1 ∷ []) ∷ [])
    (((feed 1 ∷ []) ∷ []) ∷ [] ∷ [] ∷ ((feed 1 ∷ []) ∷ []) ∷ [])

-- 1 a timer; 2 a sensor of column 1; 3 a condition on it; 4 a counter at its first branch; 5 a gain of 4, which inherits; 6 a counter at the second
-- branch; 7 has two activation inputs, the first fed by the first branch, the second by the timer and by the second branch
abbrev pub branching : Parts
branching =
    net_of (timer ∷ sensor (pos 1) ∷ condition ∷ counter ∷ gain (pos 1) ∷ counter ∷ and_logic ∷ []) ([] ∷ [] ∷ (wire 2 1 ∷ []) ∷ [] ∷ (wire 4 1 ∷ []) ∷ [] ∷ [] ∷ [])
    (((feed 1 ∷ []) ∷ []) ∷ ((feed 1 ∷ []) ∷ []) ∷ ((feed 1 ∷ []) ∷ []) ∷ ((branch 3 1 ∷ []) ∷ []) ∷ [] ∷ ((branch 3 2 ∷ []) ∷ []) ∷ ((branch 3 1 ∷ []) ∷ (feed 1 ∷ branch 3 2 ∷ []) ∷ []) ∷ [])

-- 1 the sum of 2 and 3, which are the constants 1 and 2
abbrev pub sum_first : Parts
sum_first = net_of (stopping_sum ∷ constant (pos 1) ∷ constant (pos 2) ∷ []) ((wire 2 1 ∷ wire 3 1 ∷ []) ∷ [] ∷ [] ∷ []) ([] ∷ [] ∷ [] ∷ [])

-- 1 three values; 2 takes them apart; 3 twice those of its second output
abbrev pub apart : Parts
apart = net_of (three_values ∷ taken_apart ∷ gain (pos 2) ∷ []) ([] ∷ (wire 1 1 ∷ []) ∷ (wire 2 2 ∷ []) ∷ []) ([] ∷ [] ∷ [] ∷ [])
