-- What programming leaves in an agenda.
use Rattle.std.specs.Prelude.{◌≡◌, ℕ, ◌+◌, ◌-◌, ◌≤◌, min, ℤ, negsuc, List, map, length}
use Rattle.sci_forms.specs.Form.{has_delay}
use Rattle.sci_net.specs.declared.Source.{Source}
use Rattle.sci_net.specs.declared.Source.TheVariants.{Start, Port}
use Rattle.sci_net.specs.Parts.{Parts, spec_of}
use Rattle.sci_net.specs.Sources.{sources_of, block_sources}
use Rattle.sci_reaction.specs.Equations.{Signals}
use Rattle.sci_agenda.specs.Firing.{Meaning}
use Rattle.sci_pending.specs.Pending.{Pending}
use Rattle.sci_pending.specs.Order.{in_order}
use Rattle.sci_run.specs.Order.{PendingInOrder}
use Rattle.sci_run.specs.Activity.{Activity}
use Rattle.sci_run.specs.Programs.{firing_of, next_pending, with_delay, with_delays}
use Rattle.sci_store.specs.Frame.{seat_of}
use Rattle.sci_store.specs.Store.{ShowsValues}
use Rattle.sci_store.specs.Written.{AreAmong}
use Rattle.sci_store.specs.Chosen.{active_of_kinds}
use Rattle.sci_store.specs.Delays.{delays_in}
use Rattle.sci_kept.specs.Kept.{Kept}

-- the date of the event that a source has before the run; none is -1
abbrev pub firing_at : Parts → Source → ℤ
firing_at n Start = negsuc 0
firing_at n (Port q) = firing_of n q

-- the dates of an agenda are less by this
abbrev pub less : ℕ → ℕ × ℕ → ℕ × ℕ
less offset e = (e.0 - offset, e.1)

-- The agenda of a net whose last reaction was at this date keeps these pending events, and has counted as many puts as events were
-- programmed, as far as 64 bits go.
pub record Keeps (n : Parts) (offset now : ℕ) (m : Meaning) (puts : ℕ) (p : Pending) : Type 0 where
  pub ports : m.ports + 1 ≡ length (sources_of n)
  pub past : offset ≤ now
  pub date : m.now + offset ≡ now
  pub pending : PendingInOrder n now p
  pub events : m.events ≡ map (less offset) (in_order p.events)
  pub counted : puts ≡ min p.programmed 18446744073709551615

-- ---- what is programmed at a date

-- an agenda that kept pending events keeps what they become, by how much less its dates may be
abbrev pub Programs : Parts → (date : ℕ) → (old : Meaning) → (before : ℕ) → (new : Meaning) → (puts : ℕ) → (ℕ → Pending → Pending) → Type 0
Programs n date old before new puts become =
    (offset : ℕ) (p : Pending) → Keeps n offset (date + offset) old before p → Keeps n offset (date + offset) new puts (become (date + offset) p)

-- a source programs its event after a delay
abbrev pub ProgramsSource : (date : ℕ) → (delay : ℤ) → (source : ℕ) → (old : Meaning) → (before : ℕ) → (new : Meaning) → (puts : ℕ) → Type 0
ProgramsSource date delay source old before new puts = (n : Parts) → Programs n date old before new puts (λ at. with_delay at source delay)

-- the activation outputs of a block program their next events, on the values that are kept
abbrev pub ProgramsBlock : Kept → (b date : ℕ) → (old : Meaning) → (before : ℕ) → (new : Meaning) → (puts : ℕ) → Type 0
ProgramsBlock k b date old before new puts =
    Programs k.fixed.net date old before new puts
    (λ at. with_delays at (delays_in k.fixed k.store) (seat_of k.fixed b).first_source (block_sources b (spec_of k.fixed.net b)))

-- the active blocks program their next events, where those of them with delays are among these
abbrev pub ProgramsDelayed : Kept → (blocks : List ℕ) → (date : ℕ) → (old : Meaning) → (before : ℕ) → (new : Meaning) → (puts : ℕ) → Type 0
ProgramsDelayed k blocks date old before new puts =
    (source : Source) (y : Signals) (active : Activity) → ShowsValues k.fixed source k.store y active
    → AreAmong k.fixed.net (active_of_kinds k.fixed.net has_delay active) blocks
    → Programs k.fixed.net date old before new puts (λ at. next_pending k.fixed.net at y active)

-- and where all of them are
abbrev pub ProgramsNext : Kept → (blocks : List ℕ) → (date : ℕ) → (old : Meaning) → (before : ℕ) → (new : Meaning) → (puts : ℕ) → Type 0
ProgramsNext k blocks date old before new puts =
    (source : Source) (y : Signals) (active : Activity) → ShowsValues k.fixed source k.store y active → AreAmong k.fixed.net active blocks
    → Programs k.fixed.net date old before new puts (λ at. next_pending k.fixed.net at y active)
