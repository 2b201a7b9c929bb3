-- Which sources reach a port.
use Rattle.std.specs.Prelude.{◌≡◌, ℕ, ◌<◌, Bool, true, false, List, length, Contains, ◌↔◌, slice_index, slice_index_or, AllPairs}
use Rattle.sci_flat.specs.Chain.{Chain}
use Rattle.sci_flat.specs.Lists.{list_at}

abbrev pub IsWanted : List Bool → ℕ → Type 0
IsWanted wanted q = slice_index_or wanted q false ≡ true

-- for each port that is wanted, the sources from which a chain of steps leads to it, by their indices, rising
pub record AreReached (es : List (ℕ × ℕ)) (sources : List ℕ) (wanted : List Bool) (lists : List (List ℕ)) : Type 0 where
  pub long : length lists ≡ length wanted
  pub rising : (q : ℕ) → AllPairs (λ i j. i < j) (list_at lists q)
  pub under : (q i : ℕ) → Contains (list_at lists q) i → i < length sources
  pub exactly : (q i : ℕ) → IsWanted wanted q → Contains (list_at lists q) i ↔ ((i < length sources) × Chain es (slice_index sources i) q)
