-- Bytes that wait before a sink.
use Rattle.std.specs.Prelude.{◌≡◌, ℕ, ◌+◌, ◌≤◌, ◌++◌, List, length, Result, IsOk}
use Rattle.sci_io.specs.Taken.{SinkState}

-- a sink before which these bytes wait
abbrev pub paged : SinkState → List ℕ → SinkState
paged s bytes = record { taken = s.taken; held = s.held ++ bytes; faults = s.faults; failing = s.failing }

-- A call that puts this text behind the bytes that wait, where there is room for it: it can't fail, the sink is as before, and the text waits too.
pub record IsKeptBack {T E : Type 0} (old new : SinkState) (bytes bytes' text : List ℕ) (result : Result T E) : Type 0 where
  pub fine : IsOk result
  pub sink : new ≡ old
  pub waits : bytes' ≡ bytes ++ text

-- where so many bytes have room for the text too
abbrev pub WaitsWithin : {T E : Type 0} → (room : ℕ) → (old new : SinkState) → (bytes bytes' text : List ℕ) → Result T E → Type 0
WaitsWithin room old new bytes bytes' text result = length bytes + length text ≤ room → IsKeptBack old new bytes bytes' text result
