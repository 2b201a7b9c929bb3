-- What a block's C text does: from a memory that holds what the block is given.
use Rattle.std.specs.Prelude.{◌≡◌, ℕ, ◌+◌, ◌<◌, ◌≤◌, ◌^◌, ◌⊎◌, ℤ, pos, List, [], ◌∷◌, length, Some, Bool, true, false, ◌||◌, slice_index_or, slice_set}
use Rattle.sci_base.specs.Lists.{at, truth_at}
use Rattle.sci_forms.specs.declared.Kind.{Kind}
use Rattle.sci_forms.specs.declared.Kind.TheVariants.{Sensor}
use Rattle.sci_forms.specs.declared.spec.Spec.{Spec}
use Rattle.sci_forms.specs.Ports.{total, port_at, elements, before}
use Rattle.sci_forms.specs.Words.{state_len_of}
use Rattle.sci_forms.specs.Form.{reads_mask}
use Rattle.sci_kinds.specs.Table.{Answer, Values, NoFit, NoQuotient}
use Rattle.c_mean.specs.Meaning.{World, Ran, same_name}
use Rattle.sci_base.specs.declared.observation.StopWord.TheVariants.{Overflow, Zero, Input}
use Rattle.c_mean.specs.Places.{get, Has, Keeps, KeepsPlaces, is_scratch}
use Rattle.c_mean.specs.Texts.{May, assigns_only}
use Rattle.c_mean.specs.Runs.{Leads, Stops}
use Rattle.sci_cgen_blocks.specs.Recipes.{scratch_of, next_scratch, IsElement}
use Rattle.sci_cgen_blocks.specs.Texts.{Places, values, states, masks, scratch_name, input_place}

-- A memory holds a block's state, its mask and those of its inputs that are asked for; its outputs are there. The mask is asked for by a kind that looks at it
-- alone: no text of another kind names the masks, and its values, next state, delays and branch are the same on all masks.
pub record Holds (s : Spec) (p : Places) (wanted : ℕ → Type 0) (x : List ℤ) (m : ℕ) (u : List ℤ) (w : World) : Type 0 where
  pub ins : (k e : ℕ) → k < length s.ins → e < elements (port_at s.ins k) → wanted k → get w values (input_place p k e) ≡ Some (at u (before s.ins k + e))
  pub state : (i : ℕ) → i < state_len_of s.kind s → get w states (p.state + i) ≡ Some (at x i)
  pub mask : reads_mask s.kind ≡ true → get w masks p.mask ≡ Some (pos m)
  pub outs : (e : ℕ) → e < total s.outs → Has w values (p.outs + e)

-- so are the scratch numbers that its values take
abbrev pub HasScratch : Spec → World → Type 0
HasScratch s w = (n : ℕ) → 1 ≤ n → n ≤ scratch_of s.kind s → Has w (scratch_name n) 0

-- and those that its next state takes
abbrev pub HasNextScratch : Spec → World → Type 0
HasNextScratch s w = (n : ℕ) → 1 ≤ n → n ≤ next_scratch s.kind s → Has w (scratch_name n) 0

-- the inputs with feedthrough, and all inputs
abbrev pub IsFed : Spec → ℕ → Type 0
IsFed s k = truth_at s.feed k ≡ true

abbrev pub IsAny : ℕ → Type 0
IsAny k = Unit {0}

-- An input with feedthrough lies apart from the block's own outputs.
abbrev pub IsApart : Spec → Places → Type 0
IsApart s p =
    (k e : ℕ) → k < length s.ins → e < elements (port_at s.ins k) → truth_at s.feed k ≡ true
    → (input_place p k e < p.outs) ⊎ (p.outs + total s.outs ≤ input_place p k e)

-- The run leaves these values at the places of the outputs and changes nothing else but scratch; or it ends by the stop.
abbrev pub Answers : Spec → Places → World → Answer → Ran → Type 0
Answers s p w (Values vs) r =
    Leads r (λ w'. Keeps is_scratch values p.outs (total s.outs) w w' × ((e : ℕ) → e < total s.outs → get w' values (p.outs + e) ≡ Some (at vs e)))
Answers s p w NoFit r = Stops r Overflow p.number
Answers s p w NoQuotient r = Stops r Zero p.number

-- The run leaves these values at the places of the state and changes nothing else but scratch.
abbrev pub NextIs : Spec → Places → World → (ℕ → ℤ) → Ran → Type 0
NextIs s p w f r =
    Leads r (λ w'.
    Keeps is_scratch states p.state (state_len_of s.kind s) w w' × ((i : ℕ) → i < state_len_of s.kind s → get w' states (p.state + i) ≡ Some (f i)))

-- Its places, its number and how many elements and values of a state it has can be spelled.
pub record AreInBounds (s : Spec) (p : Places) : Type 0 where
  pub ins : (k e : ℕ) → IsElement s k e → input_place p k e < 2 ^ 63
  pub outs : p.outs + total s.outs ≤ 2 ^ 63
  pub count : total s.outs < 2 ^ 63
  pub steps : state_len_of s.kind s < 2 ^ 63
  pub state : p.state + state_len_of s.kind s ≤ 2 ^ 63
  pub mask : p.mask < 2 ^ 63
  pub number : p.number < 2 ^ 63

-- ---- sensors

-- The first of these values, which are left of column c, counted from 0, is at the output's place and taken from its column, and nothing else changes
-- but scratch; where none is left, the run ends by the stop.
abbrev pub TakesFirst : Places → ℕ → List ℤ → World → Ran → Type 0
TakesFirst p c (v ∷ vs) w r =
    Leads r (λ w'. KeepsPlaces is_scratch values p.outs 1 w w' × (get w' values p.outs ≡ Some v) × (w'.left ≡ slice_set w.left c vs))
TakesFirst p c [] w r = Stops r Input p.number

-- The run of a SENSOR takes the next value of its column; a column that isn't there has none.
abbrev pub Senses : Places → ℕ → World → Ran → Type 0
Senses p c w r = TakesFirst p c (slice_index_or w.left c []) w r

-- ---- what the texts may do

abbrev pub takes_input : Kind → Bool
takes_input Sensor = true
takes_input _ = false

-- The text of the values assigns scratch and values, calls nothing and shows nothing; a SENSOR's alone takes input.
abbrev pub body_may : Spec → May
body_may s = record { assign = λ x. is_scratch x || same_name values x; call = λ f. false; take = takes_input s.kind; show = false }

-- that of the next state assigns scratch and states, and does nothing else
abbrev pub next_may : May
next_may = assigns_only (λ x. is_scratch x || same_name states x)
