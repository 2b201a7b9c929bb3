-- What is observed of a reaction. Elements are counted from 1.
use Rattle.std.specs.Prelude.{ℕ, ◌+◌, Bool, true, false, pos, ℤ, List, [], ◌∷◌, ◌++◌, take, drop, if◌then◌else◌}
use Rattle.sci_base.specs.declared.observation.Obs.{Obs}
use Rattle.sci_base.specs.declared.observation.Obs.TheVariants.{Start as Started, Event, Val, Stop}
use Rattle.sci_base.specs.declared.observation.StopWord.{StopWord}
use Rattle.sci_forms.specs.declared.ports.Port.{Port as Output}
use Rattle.sci_forms.specs.declared.spec.Spec.{Spec}
use Rattle.sci_forms.specs.Ports.{elements}
use Rattle.sci_net.specs.declared.Source.{Source}
use Rattle.sci_net.specs.declared.Source.TheVariants.{Start, Port}
use Rattle.sci_net.specs.Parts.{Parts}
use Rattle.sci_reaction.specs.Equations.{Signals}
use Rattle.sci_run.specs.Activity.{Activity}

-- the source that reacts, and for an event its date
abbrev pub header : (date : ℕ) → Source → Obs
header date Start = Started
header date (Port q) = Event (pos date) (pos q.block) (pos q.port)

abbrev pub elements_seen : (block port element : ℕ) → List ℤ → List Obs
elements_seen b p e [] = []
elements_seen b p e (v ∷ vs) = Val (pos b) (pos p) (pos e) v ∷ elements_seen b p (e + 1) vs

abbrev pub outputs_seen : (block port : ℕ) → List Output → List ℤ → List Obs
outputs_seen b p [] vs = []
outputs_seen b p (o ∷ os) vs = elements_seen b p 1 (take (elements o) vs) ++ outputs_seen b (p + 1) os (drop (elements o) vs)

abbrev pub blocks_seen : (block : ℕ) → List Spec → Signals → Activity → List Obs
blocks_seen b [] y active = []
blocks_seen b (s ∷ ss) y active = (if active b then outputs_seen b 1 s.outs (y b) else []) ++ blocks_seen (b + 1) ss y active

-- of a reaction with values the header, and then the values of the active blocks, by block, port and element
abbrev pub values_seen : Parts → (date : ℕ) → Source → Signals → Activity → List Obs
values_seen n date s y active = header date s ∷ blocks_seen 1 n.specs y active

-- of one that stops the header, and then the block that has no value with its word
abbrev pub stop_seen : (date : ℕ) → Source → (block : ℕ) → StopWord → List Obs
stop_seen date s b word = header date s ∷ Stop word (pos b) (pos 0) ∷ []

-- how many reactions have been observed: each begins with its header
abbrev pub is_header : Obs → Bool
is_header Started = true
is_header (Event date b p) = true
is_header _ = false

abbrev pub reactions : List Obs → ℕ
reactions [] = 0
reactions (o ∷ os) = if is_header o then reactions os + 1 else reactions os
