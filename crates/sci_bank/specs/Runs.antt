-- Runs: several blocks of one kind, called one after the other on the values at their places.
use Rattle.std.specs.Prelude.{◌≡◌, ℕ, ◌+◌, ◌-◌, ◌<◌, ◌≤◌, min, ℤ, List, [], ◌∷◌, length, All, Option, Some, None, slice_index_or}
use Rattle.sci_base.specs.declared.Ty.{Ty}
use Rattle.sci_base.specs.declared.Ty.TheVariants.{I32}
use Rattle.sci_base.specs.Fit.{InRange}
use Rattle.sci_base.specs.Lists.{at}
use Rattle.sci_forms.specs.declared.ports.Port.{Port}
use Rattle.sci_forms.specs.Ports.{port_at, elements, type_of, total}
use Rattle.sci_kinds.specs.Asks.{IsMask, entering}
use Rattle.sci_kinds.specs.Table.{Answer, Values, NoFit, NoQuotient, out}
use Rattle.sci_span.specs.declared.span.Span.{Span}
use Rattle.sci_span.specs.declared.place.Place.{Place}
use Rattle.sci_span.specs.Values.{no_place, no_span, gathered, overwritten, IsLone}
use Rattle.sci_bank.specs.declared.Fate.{Fate}
use Rattle.sci_bank.specs.declared.Fate.TheVariants.{Done, Overflow, Zero}
use Rattle.sci_bank.specs.declared.runs.Call.{Call}
use Rattle.sci_bank.specs.declared.runs.Stuck.{Stuck}
use Rattle.sci_bank.specs.Bank.{Meaning, row_at, spec_at, after_update}

-- where the values of a block lie, by its number from 1
abbrev pub place_in : List Place → ℕ → Place
place_in places b = slice_index_or places (b - 1) no_place

-- ---- outputs

-- what the block of a call answers on the values at the places of its inputs
abbrev pub answer_at : Meaning → List Place → Call → List ℤ → Answer
answer_at b places c values = out (spec_at b c.slot) (row_at b c.slot).state c.mask (gathered values (place_in places c.block).ins)

-- what one call answers, where its values are written from a place on
abbrev pub IsWritten : Answer → (start : ℕ) → (old new : List ℤ) → Fate → Type 0
IsWritten (Values vs) start old new fate = (fate ≡ Done) × (new ≡ overwritten old start vs)
IsWritten NoFit start old new fate = (fate ≡ Overflow) × (new ≡ old)
IsWritten NoQuotient start old new fate = (fate ≡ Zero) × (new ≡ old)

-- what a run comes to: the values behind it; or those behind the calls before the first whose block has none, how many these are, this block, and why
pub data RunEnd : Type 0 where
  Went : List ℤ → RunEnd
  StuckAt : List ℤ → ℕ → ℕ → Fate → RunEnd

-- one call was made before these
abbrev pub later : RunEnd → RunEnd
later (Went values) = Went values
later (StuckAt values n block fate) = StuckAt values (n + 1) block fate

-- the calls that follow go on from the values with those of this block at its place
abbrev pub behind : (List ℤ → RunEnd) → Call → Place → List ℤ → Answer → RunEnd
behind rest c p values (Values vs) = later (rest (overwritten values p.outs.start vs))
behind rest c p values NoFit = StuckAt values 0 c.block Overflow
behind rest c p values NoQuotient = StuckAt values 0 c.block Zero

abbrev pub run_of : Meaning → List Place → List Call → List ℤ → RunEnd
run_of b places [] values = Went values
run_of b places (c ∷ cs) values = behind (run_of b places cs) c (place_in places c.block) values (answer_at b places c values)

-- how many calls were made of so many
abbrev pub calls_made : ℕ → RunEnd → ℕ
calls_made n (Went values) = n
calls_made n (StuckAt values k block fate) = k + 1

-- a bank that has counted so many calls more
abbrev pub after_outs : Meaning → ℕ → Meaning
after_outs b n = record b { outs = min (b.outs + n) 18446744073709551615 }

-- what a call of a run answers and writes
abbrev pub EndsRun : RunEnd → Option Stuck → List ℤ → Type 0
EndsRun (Went values) None new = new ≡ values
EndsRun (Went values) (Some stuck) new = ⊥
EndsRun (StuckAt values n block fate) None new = ⊥
EndsRun (StuckAt values n block fate) (Some stuck) new = (new ≡ values) × (stuck.block ≡ block) × (stuck.fate ≡ fate)

-- ---- next states

abbrev pub after_updates : Meaning → List Place → List ℤ → List Call → Meaning
after_updates b places values [] = b
after_updates b places values (c ∷ cs) =
    after_updates (after_update b c.slot c.mask (gathered values (place_in places c.block).ins)) places values cs

-- ---- what calls ask

-- all values are in range of these types
pub record AreOfTypes (types : List Ty) (values : List ℤ) : Type 0 where
  pub one_each : length types ≡ length values
  pub in_range : (k : ℕ) → k < length values → InRange (slice_index_or types k I32) (at values k)

-- each of these places is there, and has the type and as many elements as its port
pub record HasTypes (types : List Ty) (ports : List Port) (spans : List Span) : Type 0 where
  pub one_each : length spans ≡ length ports
  pub within : (k : ℕ) → k < length spans → (slice_index_or spans k no_span).start < length types
  pub sizes_are : (k : ℕ) → k < length spans → (slice_index_or spans k no_span).len ≡ elements (port_at ports k)
  pub types_are : (k : ℕ) → k < length spans → slice_index_or types (slice_index_or spans k no_span).start I32 ≡ type_of (port_at ports k)

-- a call of a block with inputs of one element each and at most one element of outputs, whose values lie in a list of these types
pub record IsPlaced (rows : Meaning) (places : List Place) (types : List Ty) (c : Call) : Type 0 where
  pub known : c.slot < length rows.rows
  pub first : 1 ≤ c.block
  pub last : c.block ≤ length places
  pub masked : IsMask (spec_at rows c.slot) c.mask
  pub takes_inputs : entering (spec_at rows c.slot) ≡ (spec_at rows c.slot).ins
  pub lone : IsLone (place_in places c.block)
  pub ins : HasTypes types (spec_at rows c.slot).ins (place_in places c.block).ins
  pub long : (place_in places c.block).outs.len ≡ total (spec_at rows c.slot).outs
  pub outs : 0 < total (spec_at rows c.slot).outs → HasTypes types ((spec_at rows c.slot).outs) ((place_in places c.block).outs ∷ [])

-- calls that a run may be made of, where the values are of these types
pub record ArePlaced (rows : Meaning) (places : List Place) (types : List Ty) (calls : List Call) : Type 0 where
  pub each : All (IsPlaced rows places types) calls

-- calls that a run may be made of, and the values that they are made on
abbrev pub MayRun : Meaning → List Place → List ℤ → List Call → Type 0
MayRun b places values calls = (types : List Ty) × (AreOfTypes types values × ArePlaced b places types calls)
