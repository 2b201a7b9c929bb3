-- What a sink took of a text that was due on it.
use Rattle.std.specs.Prelude.{ℕ, ◌≡◌, ◌≤◌, ◌++◌, List, [], ◌∷◌, Option, None, Result, OnOk, OnErr, Bool, true, false}
use Rattle.std.specs.Borrow.{Bor}
use Rattle.std.specs.Io.KnownBytes.{Appends}
use Rattle.sci_io.specs.Causes.{counted}

-- A sink as its caller sees it: the bytes that it gave on, where it tells them, those that it took and still holds, how often a call of `put` or
-- `flush` failed, and whether the last one did.
pub record SinkState : Type 0 where
  pub taken : Option (List ℕ)
  pub held : List ℕ
  pub faults : ℕ
  pub failing : Bool

-- a sink that holds nothing back
abbrev pub direct : Option (List ℕ) → ℕ → Bool → SinkState
direct taken faults failing = record { taken = taken; held = []; faults = faults; failing = failing }

-- a sink that holds bytes back behind those of another
abbrev pub behind : SinkState → List ℕ → Bool → SinkState
behind s bytes failing = record { taken = s.taken; held = s.held ++ bytes; faults = s.faults; failing = failing }

-- a text was taken by a sink that tells nothing, holds nothing back and doesn't fail, whichever text it is
pub record TakesUnseen (old new : SinkState) : Type 0 where
  pub tells_nothing : old.taken ≡ None
  pub holds_nothing : old.held ≡ []
  pub works : old.failing ≡ false
  pub same : new ≡ old

-- A front of what was due was given on, and the rest is due still.
pub record Advances (old new : Option (List ℕ)) (due rest : List ℕ) : Type 0 where
  pub front : List ℕ
  pub split : due ≡ front ++ rest
  pub taken : Appends old new front

-- A front of what was due was given on.
abbrev pub TakesFront : Option (List ℕ) → Option (List ℕ) → List ℕ → Type 0
TakesFront old new due = (rest : List ℕ) × Advances old new due rest

-- A call that writes this text to a sink. What was held and the text behind it are due: after Ok a front of them was given on, the rest
-- is held, the faults are as before, and the sink isn't failing unless it was; after an Err a front of them was given on, nothing is held, and one
-- call of the sink has failed, the last one.
pub record Writes {T E : Type 0} (old new : SinkState) (text : List ℕ) (result : Result T E) : Type 0 where
  pub ok : OnOk result (Advances old.taken new.taken (old.held ++ text) new.held)
  pub quiet : OnOk result (new.faults ≡ old.faults)
  pub works : OnOk result (old.failing ≡ false → new.failing ≡ false)
  pub cut : OnErr result (TakesFront old.taken new.taken (old.held ++ text))
  pub dropped : OnErr result (new.held ≡ [])
  pub cause : OnErr result (new.faults ≡ counted old.faults)
  pub fails : OnErr result (new.failing ≡ true)
  pub later : old.faults ≤ new.faults

-- pieces behind one another
abbrev pub joined : List (Bor (List ℕ)) → List ℕ
joined [] = []
joined (p ∷ ps) = p.now ++ joined ps

-- A text is being written: this rest of it is still to be handed to the sink, and no call has failed.
pub record UnderWay (old now : SinkState) (text rest : List ℕ) : Type 0 where
  pub advances : Advances old.taken now.taken (old.held ++ text) (now.held ++ rest)
  pub quiet : now.faults ≡ old.faults
  pub works : old.failing ≡ false → now.failing ≡ false
