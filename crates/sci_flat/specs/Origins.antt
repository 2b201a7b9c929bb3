-- Ports that the same sources reach.
use Rattle.std.specs.Prelude.{◌≡◌, ℕ, zero, suc, ◌<◌, ◌==◌, ◌↔◌, ◌⊎◌, List, length, map, Contains, slice_index, slice_index_or, if◌then◌else◌}
use Rattle.sci_flat.specs.Chain.{Chain}
use Rattle.sci_flat.specs.Lists.{list_at}
use Rattle.sci_flat.specs.Successors.{from_at, to_at}
use Rattle.sci_flat.specs.declared.reach.origins.Before.{Before}
use Rattle.sci_flat.specs.declared.reach.origins.Before.TheVariants.{Nothing, One, Several}

-- with one more step, which leads from p
abbrev pub stepped : Before → ℕ → Before
stepped Nothing p = One p
stepped (One q) p = Several
stepped Several p = Several

-- where those of the first n steps lead from that lead to q
abbrev pub before : List (ℕ × ℕ) → ℕ → ℕ → Before
before es q zero = Nothing
before es q (suc n) = if to_at es n == q then stepped (before es q n) (from_at es n) else before es q n

pub record AreBefores (es : List (ℕ × ℕ)) (ports n : ℕ) (befores : List Before) : Type 0 where
  pub long : length befores ≡ ports
  pub each : (q : ℕ) → q < ports → slice_index_or befores q Nothing ≡ before es q n

-- the only port before this one; itself where there is no such
abbrev pub above : Before → ℕ → ℕ
above Nothing q = q
above (One p) q = p
above Several q = q

-- by port the one above it
pub record AreAbove (befores : List Before) (n : ℕ) (origins : List ℕ) : Type 0 where
  pub long : length origins ≡ n
  pub each : (q : ℕ) → q < n → slice_index origins q ≡ above (slice_index_or befores q Nothing) q

-- each is itself, or is none of the first n sources and is as before
pub record AreRooted (sources : List ℕ) (n : ℕ) (old new : List ℕ) : Type 0 where
  pub long : length new ≡ length old
  pub each : (q : ℕ) → q < length old → (slice_index new q ≡ q) ⊎ ((slice_index new q ≡ slice_index old q) × ((k : ℕ) → k < n → slice_index sources k ≡ q → ⊥))

-- the same sources reach both
abbrev pub AreAlike : List (ℕ × ℕ) → List ℕ → ℕ → ℕ → Type 0
AreAlike es sources q r = (s : ℕ) → Contains sources s → Chain es s q ↔ Chain es s r

-- by port one that the same sources reach
pub record AreOrigins (es : List (ℕ × ℕ)) (sources : List ℕ) (ports : ℕ) (origins : List ℕ) : Type 0 where
  pub long : length origins ≡ ports
  pub within : (q : ℕ) → q < ports → slice_index origins q < ports
  pub alike : (q : ℕ) → q < ports → AreAlike es sources q (slice_index origins q)

-- from a port to its origin, to that one's, and so on
pub data Climb (origins : List ℕ) (q : ℕ) : ℕ → Type 0 where
  here : Climb origins q q
  up : {r : ℕ} → Climb origins q r → Climb origins q (slice_index origins r)

-- each is as before, or is this origin and stands where a climb from q leads
pub record AreSettled (q origin : ℕ) (old new : List ℕ) : Type 0 where
  pub long : length new ≡ length old
  pub each : (p : ℕ) → p < length old → (slice_index new p ≡ slice_index old p) ⊎ ((slice_index new p ≡ origin) × Climb old q p)

-- the list of each port is that of its origin
abbrev pub shared : List (List ℕ) → List ℕ → List (List ℕ)
shared lists origins = map (list_at lists) origins
