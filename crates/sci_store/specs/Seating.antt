-- The instances of a net's blocks in the banks.
use Rattle.std.specs.Prelude.{◌≡◌, ℕ, ℤ, ◌<◌, List, [], length}
use Rattle.sci_forms.specs.declared.Kind.{Kind}
use Rattle.sci_forms.specs.declared.spec.Spec.{Spec}
use Rattle.sci_net.specs.Parts.{Parts, IsBlock, numbered, spec_of}
use Rattle.sci_bank.specs.Bank.{Meaning, first_row, row_at}
use Rattle.sci_bank.specs.Library.{bank_of, AreInOrder, IsFull}
use Rattle.sci_store.specs.declared.seats.Seat.{Seat}
use Rattle.sci_store.specs.Frame.{IsSeat, no_seat}

-- the banks of all kinds, none with an instance or a call
pub record AreReset (banks : List Meaning) : Type 0 where
  pub full : IsFull banks
  pub in_order : AreInOrder banks
  pub empty : (k : Kind) → (bank_of banks k).rows ≡ []
  pub counts : (k : Kind) → (bank_of banks k).outs ≡ 0

-- where block b is kept
abbrev pub seat_in : List Seat → ℕ → Seat
seat_in seats b = numbered no_seat seats b

-- an instance of its own for each block, in the first state of its spec among these, and no calls
pub record IsSeatingBy (n : Parts) (specs : ℕ → Spec) (seats : List Seat) (banks : List Meaning) : Type 0 where
  pub one_each : length seats ≡ length n.specs
  pub seats_are : (b : ℕ) → IsBlock n b → IsSeat n b (seat_in seats b)
  pub known : (b : ℕ) → IsBlock n b → (seat_in seats b).slot < length (bank_of banks (seat_in seats b).kind).rows
  pub rows : (b : ℕ) → IsBlock n b → row_at (bank_of banks (seat_in seats b).kind) (seat_in seats b).slot ≡ first_row (specs b)
  pub apart : (b c : ℕ) → IsBlock n b → IsBlock n c → (seat_in seats b).kind ≡ (seat_in seats c).kind → (seat_in seats b).slot ≡ (seat_in seats c).slot → b ≡ c
  pub counts : (k : Kind) → (bank_of banks k).outs ≡ 0

-- by the specs of the net
abbrev pub IsSeating : Parts → List Seat → List Meaning → Type 0
IsSeating n seats banks = IsSeatingBy n (spec_of n) seats banks

-- by these with other states
abbrev pub begun : Parts → List (List ℤ) → ℕ → Spec
begun n states b = record (spec_of n b) { state = numbered [] states b }
