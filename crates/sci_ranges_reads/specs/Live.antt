-- Which sources may ever react, and which blocks they may activate.
use Rattle.std.specs.Prelude.{◌≡◌, ℕ, pos, ◌≤ℤ◌, int_le, Bool, true, false, Some}
use Rattle.sci_forms.specs.declared.Kind.{Kind}
use Rattle.sci_forms.specs.declared.Kind.TheVariants.{EvtDly, EvtVarDly}
use Rattle.sci_forms.specs.declared.spec.Spec.{Spec}
use Rattle.sci_forms.specs.Words.{param}
use Rattle.sci_net.specs.declared.Feed.{Feed}
use Rattle.sci_net.specs.declared.Source.{Source}
use Rattle.sci_net.specs.declared.Source.TheVariants.{Start, Port}
use Rattle.sci_net.specs.Parts.{Parts, spec_of}
use Rattle.sci_net.specs.Sources.{source_of}
use Rattle.sci_reaction.specs.Links.{IsSource}
use Rattle.sci_reaction.specs.Active.{Spread}
use Rattle.sci_reaction.specs.Depends.{Conditions}
use Rattle.sci_reaction.specs.Equations.{Signals, Takes, Active}
use Rattle.sci_pending.specs.Pending.{Event, next}
use Rattle.sci_run.specs.Programs.{firing_of, first_pending}

-- of synchronous block c whether its branch p is never taken
abbrev pub Dead : Type 0
Dead = ℕ → ℕ → Bool

-- the blocks that the source may activate, where each other branch may be taken
abbrev pub MayAct : Parts → Dead → Source → ℕ → Type 0
MayAct n dead s = Spread n s (λ c p. dead c p ≡ false)

-- What is known of the active synchronous blocks whose branches decide whether b is active: they may act, and take no dead branch. In the order of a row
-- these stand before b.
abbrev pub AreKnown : Parts → Dead → Source → Signals → ℕ → Type 0
AreKnown n dead s y b = (c p : ℕ) → Active n s y c → Conditions n c b → Takes n y c p → MayAct n dead s c × (dead c p ≡ false)

-- a block of the kind may program its activation output
abbrev pub may_program_of : Kind → Spec → Bool
may_program_of EvtDly s = int_le (pos 0) (param s 0)
may_program_of EvtVarDly s = true
may_program_of _ s = false

abbrev pub may_program : Spec → Bool
may_program s = may_program_of s.kind s

-- the least set that has start, each source with a first date, and with a source the outputs of the delays that it may activate
pub data IsLive (n : Parts) (dead : Dead) : Source → Type 0 where
  begins : IsLive n dead Start
  dated : (q : Feed) → IsSource n (Port q) → pos 0 ≤ℤ firing_of n q → IsLive n dead (Port q)
  programmed : (s : Source) (q : Feed) → IsLive n dead s → IsSource n (Port q) → MayAct n dead s q.block → may_program (spec_of n q.block) ≡ true → IsLive n dead (Port q)

-- some live source may activate the block
pub record IsPossible (n : Parts) (dead : Dead) (b : ℕ) : Type 0 where
  pub source : Source
  pub live : IsLive n dead source
  pub acts : MayAct n dead source b

-- start programs nothing
abbrev pub IsQuiet : Parts → Dead → Type 0
IsQuiet n dead = (b : ℕ) → MayAct n dead Start b → may_program (spec_of n b) ≡ false

-- of what is pending before the run, the event of f is the next
pub record IsFirst (n : Parts) (f : Feed) : Type 0 where
  pub event : Event
  pub is_next : next (first_pending n).events ≡ Some event
  pub source : source_of n event.source ≡ Port f
