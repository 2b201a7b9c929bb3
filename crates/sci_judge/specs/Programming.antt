-- Sources that program their events one after another.
use Rattle.std.specs.Prelude.{◌≡◌, ℕ, ◌<◌, ◌≤◌, ◌⊎◌, true, false, ℤ, negsuc, List, [], ◌∷◌, length, All, Contains}
use Rattle.sci_forms.specs.Form.{has_delay}
use Rattle.sci_net.specs.declared.Feed.{Feed}
use Rattle.sci_net.specs.declared.Source.{Source}
use Rattle.sci_net.specs.declared.Source.TheVariants.{Start, Port}
use Rattle.sci_net.specs.Parts.{Parts, IsActivationOutput, spec_of}
use Rattle.sci_net.specs.Sources.{sources_of, source_of}
use Rattle.sci_reaction.specs.Equations.{Signals}
use Rattle.sci_pending.specs.Pending.{Pending}
use Rattle.sci_run.specs.Activity.{Activity}
use Rattle.sci_run.specs.Programs.{firing_of, next_pending, with_delay, with_delays}
use Rattle.sci_store.specs.Delays.{delays_in}
use Rattle.sci_store.specs.Store.{ShowsValues}
use Rattle.sci_store.specs.Written.{AreAmong}
use Rattle.sci_kept.specs.Kept.{Kept}

-- the date of the event that a source has before the run; none is -1
abbrev pub firing_at : Parts → Source → ℤ
firing_at n Start = negsuc 0
firing_at n (Port q) = firing_of n q

-- a source with its delay; start is never programmed
abbrev pub with_delay_of : (date : ℕ) → (Feed → ℤ) → ℕ → Source → Pending → Pending
with_delay_of date delays k Start p = p
with_delay_of date delays k (Port q) p = with_delay date k (delays q) p

-- the source at this place
abbrev pub with_source : Parts → (date : ℕ) → (Feed → ℤ) → ℕ → Pending → Pending
with_source n date delays k p = with_delay_of date delays k (source_of n k) p

-- those at these places, one after another
abbrev pub with_sources : Parts → (date : ℕ) → (Feed → ℤ) → List ℕ → Pending → Pending
with_sources n date delays [] p = p
with_sources n date delays (k ∷ ks) p = with_sources n date delays ks (with_source n date delays k p)

-- what is pending then, on the values that are kept
abbrev pub after_source : Kept → (date source : ℕ) → Pending → Pending
after_source k date source p = with_source k.fixed.net date (delays_in k.fixed k.store) source p

abbrev pub after_sources : Kept → (date : ℕ) → (sources : List ℕ) → Pending → Pending
after_sources k date sources p = with_sources k.fixed.net date (delays_in k.fixed k.store) sources p

-- an activation output of a block with delays
pub record IsDelayed (n : Parts) (k : ℕ) : Type 0 where
  pub within : k < length (sources_of n)
  pub output : Feed
  pub is : source_of n k ≡ Port output
  pub known : IsActivationOutput n output.block output.port
  pub delayed : has_delay (spec_of n output.block).kind ≡ true

-- an activation output programs nothing, where its block isn't one of these, or has no delays
abbrev pub AreQuiet : Parts → List ℕ → (Feed → ℤ) → Type 0
AreQuiet n blocks delays =
    (q : Feed) → IsActivationOutput n q.block q.port → (Contains blocks q.block → ⊥) ⊎ (has_delay (spec_of n q.block).kind ≡ false) → delays q ≡ negsuc 0

-- the activation outputs of those of these blocks that have delays, by their places
pub record AreSourcesOf (n : Parts) (blocks ks : List ℕ) : Type 0 where
  pub delayed : All (IsDelayed n) ks
  pub few : length ks ≤ length (sources_of n)
  pub all : (date : ℕ) (delays : Feed → ℤ) (p : Pending) → AreQuiet n blocks delays
      → with_sources n date delays ks p ≡ with_delays date delays 0 (sources_of n) p

-- the active blocks program their next events, where all of them are among these
abbrev pub ProgramsNext : Kept → (blocks : List ℕ) → (date : ℕ) → (old new : Pending) → Type 0
ProgramsNext k blocks date old new =
    (source : Source) (y : Signals) (active : Activity) → ShowsValues k.fixed source k.store y active → AreAmong k.fixed.net active blocks
    → new ≡ next_pending k.fixed.net date y active old
