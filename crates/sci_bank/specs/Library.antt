-- The banks of a library, in the order of the kinds' numbers.
use Rattle.std.specs.Prelude.{◌≡◌, ℕ, ◌+◌, ◌-◌, ◌<◌, min, nat_lt, if◌then◌else◌, Option, Some, None, List, length, slice_index_or, slice_set, sum_by}
use Rattle.sci_forms.specs.declared.Kind.{Kind}
use Rattle.sci_forms.specs.Numbers.{number_of, kind_at, kinds}
use Rattle.sci_bank.specs.Bank.{Meaning, no_bank}

abbrev pub place_of : Kind → ℕ
place_of k = number_of k - 1

abbrev pub bank_of : List Meaning → Kind → Meaning
bank_of banks k = slice_index_or banks (place_of k) no_bank

-- the bank of one kind is replaced; the others stay
abbrev pub with_bank : List Meaning → Kind → Meaning → List Meaning
with_bank banks k b = slice_set banks (place_of k) b

-- the library holds a bank at the place of this kind
abbrev pub Holds : List Meaning → Kind → Type 0
Holds banks k = place_of k < length banks

-- each bank stands at the place of its kind
abbrev pub AreInOrder : List Meaning → Type 0
AreInOrder banks = (i : ℕ) → i < length banks → kind_at (i + 1) ≡ Some (slice_index_or banks i no_bank).kind

-- a bank for each kind
abbrev pub IsFull : List Meaning → Type 0
IsFull banks = length banks ≡ kinds

-- the kind whose bank comes next, of n that are there
abbrev pub next_of : ℕ → Option Kind
next_of n = if nat_lt n kinds then kind_at (n + 1) else None

-- the sum of all counts, as far as 64 bits go
abbrev pub total_outs : List Meaning → ℕ
total_outs banks = min (sum_by (λ (b : Meaning). b.outs) banks) 18446744073709551615
