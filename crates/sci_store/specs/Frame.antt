-- What stays as it is through a run: the net, where its values lie, how their lines start, and where its blocks are kept.
use Rattle.std.specs.Prelude.{◌≡◌, ℕ, ◌+◌, ◌-◌, ◌<◌, ◌≤◌, false, List, length}
use Rattle.sci_forms.specs.declared.Kind.TheVariants.{Const}
use Rattle.sci_forms.specs.Form.{is_sync}
use Rattle.sci_net.specs.declared.Source.TheVariants.{Port}
use Rattle.sci_net.specs.Parts.{Parts, IsBlock, IsActivationOutput, numbered, spec_of}
use Rattle.sci_net.specs.Net.{IsNet}
use Rattle.sci_net.specs.Sources.{sources_of, source_of}
use Rattle.sci_kinds.specs.Table.{state_len}
use Rattle.sci_pass.specs.State.{IsSameButState}
use Rattle.sci_run.specs.Laws.{AreLoopFree}
use Rattle.sci_places.specs.Layout.{Layout, IsLayout}
use Rattle.sci_bank.specs.declared.instance.Instance.{Instance}
use Rattle.sci_bank.specs.Bank.{Meaning, row_at}
use Rattle.sci_bank.specs.Library.{bank_of, AreInOrder, IsFull}
use Rattle.sci_store.specs.declared.seats.Seat.{Seat}
use Rattle.sci_store.specs.Heads.{heads_of}

abbrev pub no_seat : Seat
no_seat = record { kind = Const; slot = 0; first_source = 0 }

pub record Fixed : Type 0 where
  pub net : Parts
  pub layout : Layout
  pub seats : List Seat
  pub heads : List (List ℕ)

abbrev pub seat_of : Fixed → ℕ → Seat
seat_of f b = numbered no_seat f.seats b

-- block b is kept at this seat
pub record IsSeat (n : Parts) (b : ℕ) (s : Seat) : Type 0 where
  pub kind : s.kind ≡ (spec_of n b).kind
  pub first : 1 ≤ s.first_source
  pub within : is_sync s.kind ≡ false → s.first_source + (spec_of n b).evtout ≤ length (sources_of n)
  pub sources : (p : ℕ) → IsActivationOutput n b p → is_sync s.kind ≡ false
      → source_of n (s.first_source + (p - 1)) ≡ Port (record { block = b; port = p })

-- the tables of a net, none of whose sources has a loop
pub record IsFrame (f : Fixed) : Type 0 where
  pub net : IsNet f.net
  pub free : AreLoopFree f.net
  pub layout : IsLayout f.net f.layout
  pub heads : f.heads ≡ heads_of f.net
  pub one_seat_each : length f.seats ≡ length f.net.specs
  pub seated : (b : ℕ) → IsBlock f.net b → IsSeat f.net b (seat_of f b)

-- ---- the instances of the blocks

abbrev pub bank_for : Fixed → List Meaning → ℕ → Meaning
bank_for f banks b = bank_of banks (seat_of f b).kind

abbrev pub instance_of : Fixed → List Meaning → ℕ → Instance
instance_of f banks b = row_at (bank_for f banks b) (seat_of f b).slot

-- The banks of all kinds, with an instance for each block, whose spec is the block's apart from the state that it begins with; this has the
-- same length.
pub record AreSeated (f : Fixed) (banks : List Meaning) : Type 0 where
  pub full : IsFull banks
  pub in_order : AreInOrder banks
  pub known : (b : ℕ) → IsBlock f.net b → (seat_of f b).slot < length (bank_for f banks b).rows
  pub specs : (b : ℕ) → IsBlock f.net b → IsSameButState (spec_of f.net b) (instance_of f banks b).spec
  pub lengths : (b : ℕ) → IsBlock f.net b → state_len (spec_of f.net b) ≡ state_len (instance_of f banks b).spec
  pub apart : (b c : ℕ) → IsBlock f.net b → IsBlock f.net c → (seat_of f b).kind ≡ (seat_of f c).kind → (seat_of f b).slot ≡ (seat_of f c).slot → b ≡ c
