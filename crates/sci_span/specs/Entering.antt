-- What goes into a block.
use Rattle.std.specs.Prelude.{ℕ, ◌<◌, ◌^◌, ℤ, List, map, length, All, Option, Some, None}
use Rattle.std.specs.Borrow.{Bor}
use Rattle.sci_base.specs.Lists.{at}

-- the values at these places; where none are told, all values
abbrev pub chosen : List ℤ → Option (Bor (List ℕ)) → List ℤ
chosen values None = values
chosen values (Some places) = map (at values) places.now

-- each of these places is one of the list, and they are not more than a slice may have
pub record ArePlaces (values : List ℤ) (places : List ℕ) : Type 0 where
  pub inside : All (λ k. k < length values) places
  pub few : length places < 2 ^ 60

abbrev pub AreOf : List ℤ → Option (Bor (List ℕ)) → Type 0
AreOf values None = Unit {0}
AreOf values (Some places) = ArePlaces values places.now
