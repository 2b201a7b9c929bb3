-- Writing to a sink until it fails, and not at all afterwards.
use Rattle.std.specs.Prelude.{◌≡◌, ℕ, List, Bool, true, false, Ok, Err}
use Rattle.std.specs.Borrow.{MutBor}
use Rattle.sci_io.specs.Taken.{SinkState, Writes}

abbrev pub GoesBy : SinkState → Bool → SinkState → Bool → List ℕ → Type 0
GoesBy old false new false text = Writes {T = Unit {0}} {E = Unit {0}} old new text (Ok tt)
GoesBy old false new true text = Writes {T = Unit {0}} {E = Unit {0}} old new text (Err tt)
GoesBy old true new true text = new ≡ old
GoesBy old true new false text = ⊥

-- A text was written to the sink behind a reference, or the sink failed within it; where it had failed before, nothing was done.
pub record Goes {X : Type 0} (state : X → SinkState) (old : MutBor X) (failed : Bool) (new : MutBor X) (fails : Bool) (text : List ℕ) : Type 0 where
  pub by : GoesBy (state old.now) failed (state new.now) fails text
  pub same : new.ghost_name ≡ old.ghost_name
