-- What a call leaves on its two sinks.
use Rattle.std.specs.Prelude.{ℕ, ◌≡◌, ◌≢◌, ◌⊎◌, ◌++◌, List, [], true}
use Rattle.std.specs.Io.KnownBytes.{Appends}
use Rattle.sci_io.specs.Causes.{counted}
use Rattle.sci_io.specs.Taken.{SinkState, TakesFront}
use Rattle.sci_answers.specs.Answer.{Answer, write_fault_line}

-- it gave on what it held and the text behind it, and holds nothing
abbrev pub Took : SinkState → SinkState → List ℕ → Type 0
Took old new text = Appends old.taken new.taken (old.held ++ text) × (new.held ≡ []) × (new.faults ≡ old.faults)

-- it gave on a front of these and holds nothing; one call of it failed, and that was the last one
abbrev pub Cut : SinkState → SinkState → List ℕ → Type 0
Cut old new text = TakesFront old.taken new.taken (old.held ++ text) × (new.held ≡ []) × (new.faults ≡ counted old.faults) × (new.failing ≡ true)

-- a text was given whole; where none was due, the sink is as it was
abbrev pub Given : SinkState → SinkState → List ℕ → Type 0
Given old new text = ((text ≡ []) × (new ≡ old)) ⊎ ((text ≢ []) × Took old new text)

-- some text was due, and the sink failed
abbrev pub CutShort : SinkState → SinkState → List ℕ → Type 0
CutShort old new text = (text ≢ []) × Cut old new text

-- Both texts were written; or out failed, and a write fault was put on err; or err failed.
abbrev pub Written : Answer → SinkState → SinkState → SinkState → SinkState → ℕ → Type 0
Written a out out' err err' status =
    ((status ≡ a.status) × Given out out' a.out × Given err err' a.err)
    ⊎ (((status ≡ 4) × CutShort out out' a.out × (Given err err' write_fault_line ⊎ CutShort err err' write_fault_line))
    ⊎ ((status ≡ 4) × Given out out' a.out × CutShort err err' a.err))
