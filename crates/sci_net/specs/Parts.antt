-- The parts of a flat net: its blocks, numbered from 1, and which port feeds which.
use Rattle.std.specs.Prelude.{◌≡◌, ℕ, zero, suc, ◌<◌, ◌≤◌, Bool, true, ◌&&◌, ◌||◌, nat_lt, nat_eq, List, [], length, map, slice_index_or, unsigned_abs, AllPairs, Contains, Vec}
use Rattle.std.specs.declared.alloc.Global.{Global}
use Rattle.sci_base.specs.declared.limits.TheConstants.{BLOCKS}
use Rattle.sci_base.specs.Lists.{at}
use Rattle.sci_base.specs.declared.refusal.Place.{Place}
use Rattle.sci_forms.specs.declared.Kind.TheVariants.{Halt}
use Rattle.sci_forms.specs.declared.ports.Port.{Port}
use Rattle.sci_forms.specs.declared.spec.Spec.{Spec}
use Rattle.sci_forms.specs.Ports.{no_port}
use Rattle.sci_net.specs.declared.Wire.{Wire}
use Rattle.sci_net.specs.declared.Feed.{Feed}
use Rattle.sci_forms.specs.Form.{is_sensor}

-- by block: the spec, the place of the object, for each regular input the output that feeds it, and for each activation input
-- the activation outputs that feed it
pub record Parts : Type 0 where
  pub specs : List Spec
  pub paths : List (List ℕ)
  pub wires : List (List Wire)
  pub feeds : List (List (List Feed))

-- ---- the parts in plain form

abbrev pub rows_of : {A : Type 0} → List (Vec A Global) → List (List A)
rows_of rows = map (λ v. v.items) rows

abbrev pub paths_of : List Place → List (List ℕ)
paths_of places = map (λ p. p.path.items) places

-- by block and activation input, the list of this number, counted from 0
abbrev pub feed_lists : List (List Feed) → List (List ℕ) → List (List (List Feed))
feed_lists lists numbers = map (λ ks. map (λ k. slice_index_or lists k []) ks) numbers

-- each of these numbers is less than the count of the lists
abbrev pub HaveLists : ℕ → List (List ℕ) → Type 0
HaveLists count rows = (b p : ℕ) → b < length rows → p < length (slice_index_or rows b []) → slice_index_or (slice_index_or rows b []) p 0 < count

abbrev pub parts_of : List Spec → List Place → List (Vec Wire Global) → List (List (List Feed)) → Parts
parts_of specs places wires feeds = record { specs = specs; paths = paths_of places; wires = rows_of wires; feeds = feeds }

-- the same net with other specs
abbrev pub with_specs : Parts → List Spec → Parts
with_specs n specs = record n { specs = specs }

-- ---- by number, counted from 1

abbrev pub numbered : {A : Type 0} → A → List A → ℕ → A
numbered d xs zero = d
numbered d xs (suc n) = slice_index_or xs n d

abbrev pub no_spec : Spec
no_spec = record { kind = Halt; params = []; state = []; firing = []; ins = []; outs = []; evtin = 0; evtout = 0; feed = [] }

abbrev pub no_wire : Wire
no_wire = record { block = 0; port = 0 }

abbrev pub spec_of : Parts → ℕ → Spec
spec_of n b = numbered no_spec n.specs b

abbrev pub path_of : Parts → ℕ → List ℕ
path_of n b = numbered [] n.paths b

-- the output that feeds regular input k of block b
abbrev pub wire_of : Parts → ℕ → ℕ → Wire
wire_of n b k = numbered no_wire (numbered [] n.wires b) k

-- the activation outputs that feed activation input p of block b
abbrev pub feeds_of : Parts → ℕ → ℕ → List Feed
feeds_of n b p = numbered [] (numbered [] n.feeds b) p

abbrev pub input_of : Parts → ℕ → ℕ → Port
input_of n b k = numbered no_port (spec_of n b).ins k

abbrev pub output_of : Parts → ℕ → ℕ → Port
output_of n b k = numbered no_port (spec_of n b).outs k

-- ---- the blocks and ports that there are

pub record IsBlock (n : Parts) (b : ℕ) : Type 0 where
  pub least : 1 ≤ b
  pub most : b ≤ length n.specs

pub record IsInput (n : Parts) (b k : ℕ) : Type 0 where
  pub block : IsBlock n b
  pub least : 1 ≤ k
  pub most : k ≤ length (spec_of n b).ins

pub record IsOutput (n : Parts) (b k : ℕ) : Type 0 where
  pub block : IsBlock n b
  pub least : 1 ≤ k
  pub most : k ≤ length (spec_of n b).outs

pub record IsActivationInput (n : Parts) (b p : ℕ) : Type 0 where
  pub block : IsBlock n b
  pub least : 1 ≤ p
  pub most : p ≤ (spec_of n b).evtin

pub record IsActivationOutput (n : Parts) (b p : ℕ) : Type 0 where
  pub block : IsBlock n b
  pub least : 1 ≤ p
  pub most : p ≤ (spec_of n b).evtout

-- ---- parts that fit together

-- by block and port
abbrev pub precedes : Feed → Feed → Bool
precedes a b = nat_lt a.block b.block || (nat_eq a.block b.block && nat_lt a.port b.port)

-- sorted, without repeats
abbrev pub AreRising : List Feed → Type 0
AreRising fs = AllPairs (λ a b. precedes a b ≡ true) fs

-- the column of the input file that a sensor reads
abbrev pub column_of : Spec → ℕ
column_of s = unsigned_abs (at s.params 0)

pub record IsSensor (n : Parts) (b : ℕ) : Type 0 where
  pub block : IsBlock n b
  pub sensor : is_sensor (spec_of n b).kind ≡ true

-- one path and one row of wires and of feed lists for each block, one wire for each regular input and one feed list for each
-- activation input, and all that they name exists
pub record IsWired (n : Parts) : Type 0 where
  pub few : length n.specs ≤ BLOCKS
  pub one_path_each : length n.paths ≡ length n.specs
  pub one_row_each : length n.wires ≡ length n.specs
  pub one_wire_each : (b : ℕ) → IsBlock n b → length (numbered [] n.wires b) ≡ length (spec_of n b).ins
  pub one_feed_row_each : length n.feeds ≡ length n.specs
  pub one_feed_list_each : (b : ℕ) → IsBlock n b → length (numbered [] n.feeds b) ≡ (spec_of n b).evtin
  pub wires_lead : (b k : ℕ) → IsInput n b k → IsOutput n (wire_of n b k).block (wire_of n b k).port
  pub feeds_rise : (b p : ℕ) → IsActivationInput n b p → AreRising (feeds_of n b p)
  pub feeds_lead : (b p : ℕ) (q : Feed) → IsActivationInput n b p → Contains (feeds_of n b p) q → IsActivationOutput n q.block q.port
  pub own_columns : (b c : ℕ) → IsSensor n b → IsSensor n c → column_of (spec_of n b) ≡ column_of (spec_of n c) → b ≡ c
