-- What a block gives is among the cells that its rule tells.
use Rattle.std.proofs.Common.{◌≡◌, ℕ, zero, suc, ◌<◌, ℤ, List, Option, Some, None, true, refl, ap, arith, inl, inr, ◌⊎◌, slice_get, Contains}
use Rattle.std.proofs.lemmas.Option.{slice_get_within, get_or_from_slice_get}
use Rattle.std.specs.Prelude.{Ok, Err}
use Rattle.sci_base.specs.declared.observation.StopWord.{StopWord}
use Rattle.sci_base.specs.declared.observation.StopWord.TheVariants.{Overflow as NoRange, Zero as NoDivisor}
use Rattle.sci_kinds.specs.declared.Cell.{Cell}
use Rattle.sci_kinds.specs.declared.Cell.TheVariants.{Value, Overflow, Zero}
use Rattle.sci_kinds.specs.Table.{Answer, Values, NoFit, NoQuotient, then_cell, gathered}
use Rattle.sci_reaction.specs.Equations.{values_or_word}
use Rattle.sci_ranges_base.specs.declared.interval.Interval.{Interval}
use Rattle.sci_ranges_base.specs.Intervals.{IsInSome, within}
use Rattle.sci_ranges_base.proofs.Numbers.{within_has}

pub within_some : (o p : Option Interval) (v : ℤ) → within o p ≡ true → IsInSome o v → IsInSome p v
within_some None p v w h = absurd h
within_some (Some i) None v w h = cc
within_some (Some i) (Some j) v w h = within_has i j v w h

-- an answer of one cell more without a fit, or without a quotient
last_fit : (a : Answer) (c : Cell) → then_cell a c ≡ NoFit → (a ≡ NoFit) ⊎ (c ≡ Overflow)
last_fit (Values vs) (Value v) h = cc
last_fit (Values vs) Overflow h = inr refl
last_fit (Values vs) Zero h = cc
last_fit NoFit c h = inl refl
last_fit NoQuotient c h = cc

last_quotient : (a : Answer) (c : Cell) → then_cell a c ≡ NoQuotient → (a ≡ NoQuotient) ⊎ (c ≡ Zero)
last_quotient (Values vs) (Value v) h = cc
last_quotient (Values vs) Overflow h = cc
last_quotient (Values vs) Zero h = inr refl
last_quotient NoFit c h = cc
last_quotient NoQuotient c h = inl refl

-- cell e, of n, is this one
abbrev pub HasCell : (ℕ → Cell) → ℕ → Cell → Type 0
HasCell f n c = (e : ℕ) × (e < n) × (f e ≡ c)

one_more : (f : ℕ → Cell) (n : ℕ) (c : Cell) → HasCell f n c → HasCell f (suc n) c
one_more f n c h = (h.0, omega (arith, h.1), h.2)

-- some cell has no value where there are no values
pub no_fit : (f : ℕ → Cell) (n : ℕ) → gathered f n ≡ NoFit → HasCell f n Overflow
no_fit f zero h = cc
no_fit f (suc n) h = elim (last_fit (gathered f n) (f n) h) [
  | inl p ↦ one_more f n Overflow (no_fit f n p)
  | inr p ↦ (n, omega arith, p)
]

pub no_quotient : (f : ℕ → Cell) (n : ℕ) → gathered f n ≡ NoQuotient → HasCell f n Zero
no_quotient f zero h = cc
no_quotient f (suc n) h = elim (last_quotient (gathered f n) (f n) h) [
  | inl p ↦ one_more f n Zero (no_quotient f n p)
  | inr p ↦ (n, omega arith, p)
]

-- the word says which
pub stops_by : (a : Answer) (word : StopWord) → values_or_word a ≡ Err word → ((a ≡ NoFit) × (word ≡ NoRange)) ⊎ ((a ≡ NoQuotient) × (word ≡ NoDivisor))
stops_by (Values vs) word h = cc
stops_by NoFit word h = inl (refl, cc)
stops_by NoQuotient word h = inr (refl, cc)

pub values_of : (a : Answer) (vs : List ℤ) → values_or_word a ≡ Ok vs → a ≡ Values vs
values_of (Values us) vs h = let same : us ≡ vs = cc in ap Values same
values_of NoFit vs h = cc
values_of NoQuotient vs h = cc

-- a column's next value is one of its values
pub next_in_column : (xs : List ℤ) (k : ℕ) (v : ℤ) → slice_get xs k ≡ Some v → Contains xs v
next_in_column xs k v h = (k, slice_get_within xs k v h, get_or_from_slice_get xs k v v h)
