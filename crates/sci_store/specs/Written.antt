-- What is written of a reaction's values.
use Rattle.std.specs.Prelude.{◌≡◌, ℕ, ℤ, true, List, [], ◌∷◌, length, Contains}
use Rattle.sci_base.specs.declared.observation.Obs.{Obs}
use Rattle.sci_base.specs.declared.observation.Obs.TheVariants.{Start, Event, Val, End, Stop}
use Rattle.sci_run.specs.Activity.{Activity}
use Rattle.sci_net.specs.Parts.{Parts, IsBlock}
use Rattle.sci_store.specs.Tally.{lines_after, sum_after, sum_with}
use Rattle.sci_store.specs.Store.{Standing}

-- all blocks that are active stand in the row
abbrev pub AreAmong : Parts → Activity → List ℕ → Type 0
AreAmong n active blocks = (b : ℕ) → IsBlock n b → active b ≡ true → Contains blocks b

-- the sum of the values among some observations, modulo 2^32, behind a sum
abbrev pub sum_of : ℕ → List Obs → ℕ
sum_of sum [] = sum
sum_of sum (Val b p e v ∷ os) = sum_of (sum_after sum v) os
sum_of sum (Start ∷ os) = sum_of sum os
sum_of sum (Event d b p ∷ os) = sum_of sum os
sum_of sum (End w ∷ os) = sum_of sum os
sum_of sum (Stop w b p ∷ os) = sum_of sum os

-- an observation without a value
abbrev pub IsPlain : Obs → Type 0
IsPlain (Val b p e v) = ⊥
IsPlain Start = Unit {0}
IsPlain (Event d b p) = Unit {0}
IsPlain (End w) = Unit {0}
IsPlain (Stop w b p) = Unit {0}

-- these were observed
abbrev pub tallied : Standing → List Obs → Standing
tallied s os = record s { lines = lines_after s.lines (length os); sum = sum_of s.sum os }

-- these values were observed
abbrev pub tallied_values : Standing → List ℤ → Standing
tallied_values s vs = record s { lines = lines_after s.lines (length vs); sum = sum_with s.sum vs }
