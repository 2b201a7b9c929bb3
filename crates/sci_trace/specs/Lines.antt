-- The text of a trace, one line for each observation.
use Rattle.std.specs.Prelude.{ℕ, ℤ, ◌++◌, List, [], ◌∷◌, codes, Bool, true, false}
use Rattle.std.specs.Fmt.{signed_decimal}
use Rattle.sci_base.specs.declared.observation.Obs.{Obs}
use Rattle.sci_base.specs.declared.observation.Obs.TheVariants.{Start, Event, Val, End, Stop}
use Rattle.sci_base.specs.declared.observation.EndWord.{EndWord}
use Rattle.sci_base.specs.declared.observation.EndWord.TheVariants.{Halt, Events, Empty, Until}
use Rattle.sci_base.specs.declared.observation.StopWord.{StopWord}
use Rattle.sci_base.specs.declared.observation.StopWord.TheVariants.{Overflow, Zero, Input, Conflict}

abbrev pub end_text : EndWord → List ℕ
end_text Halt = codes "halt"
end_text Events = codes "events"
end_text Empty = codes "empty"
end_text Until = codes "until"

abbrev pub stop_text : StopWord → List ℕ
stop_text Overflow = codes "overflow"
stop_text Zero = codes "zero"
stop_text Input = codes "input"
stop_text Conflict = codes "conflict"

-- the numbers, each behind a space, and the end of the line
abbrev pub numbers : List ℤ → List ℕ
numbers [] = codes "\n"
numbers (n ∷ ns) = codes " " ++ (signed_decimal n ++ numbers ns)

-- a conflict is told with its port, any other stop with its block alone
abbrev pub place_of_stop : StopWord → ℤ → ℤ → List ℤ
place_of_stop Overflow block port = block ∷ []
place_of_stop Zero block port = block ∷ []
place_of_stop Input block port = block ∷ []
place_of_stop Conflict block port = block ∷ port ∷ []

unfoldable pub line : Obs → List ℕ
line Start = codes "start" ++ numbers []
line (Event date block port) = codes "event" ++ numbers (date ∷ block ∷ port ∷ [])
line (Val block port element value) = codes "val" ++ numbers (block ∷ port ∷ element ∷ value ∷ [])
line (End word) = codes "end " ++ (end_text word ++ numbers [])
line (Stop word block port) = codes "stop " ++ (stop_text word ++ numbers (place_of_stop word block port))

abbrev pub text : List Obs → List ℕ
text [] = []
text (o ∷ os) = line o ++ text os

-- the last observation, behind this one
abbrev pub last_after : Obs → List Obs → Obs
last_after o [] = o
last_after o (p ∷ os) = last_after p os

abbrev pub is_stop : Obs → Bool
is_stop Start = false
is_stop (Event date block port) = false
is_stop (Val block port element value) = false
is_stop (End word) = false
is_stop (Stop word block port) = true

-- the last observation is a stop
abbrev pub stops : List Obs → Bool
stops [] = false
stops (o ∷ os) = is_stop (last_after o os)
