-- A net with an instance of each of its blocks in the banks.
use Rattle.std.proofs.Common.{◌≡◌, ℕ, List, refl, ap, sym, subst}
use Rattle.sci_kinds.specs.Table.{state_len}
use Rattle.sci_net.specs.Parts.{Parts, spec_of}
use Rattle.sci_net.specs.Net.{IsNet}
use Rattle.sci_pass.specs.State.{IsSameButState}
use Rattle.sci_run.specs.Laws.{AreLoopFree}
use Rattle.sci_places.specs.Layout.{Layout, IsLayout}
use Rattle.sci_bank.specs.declared.instance.Instance.{Instance}
use Rattle.sci_bank.specs.Bank.{Meaning}
use Rattle.sci_bank.specs.Library.{AreInOrder, IsFull}
use Rattle.sci_store.specs.declared.seats.Seat.{Seat}
use Rattle.sci_store.specs.Heads.{heads_of}
use Rattle.sci_store.specs.Frame.{Fixed, IsFrame, AreSeated}
use Rattle.sci_store.specs.Seating.{IsSeating}

abbrev pub fixed_of : Parts → Layout → List Seat → List (List ℕ) → Fixed
fixed_of n layout seats heads = record { net = n; layout = layout; seats = seats; heads = heads }

pub frame_is : (n : Parts) (layout : Layout) (seats : List Seat) (heads : List (List ℕ)) (banks : List Meaning) → IsNet n → AreLoopFree n → IsLayout n layout
    → heads ≡ heads_of n → IsSeating n seats banks → IsFrame (fixed_of n layout seats heads)
frame_is n layout seats heads banks net free laid starts seated = record {
  net = net;
  free = free;
  layout = laid;
  heads = starts;
  one_seat_each = seated.one_each;
  seated = seated.seats_are;
}

pub seats_are : (f : Fixed) (banks : List Meaning) → IsFull banks → AreInOrder banks → IsSeating f.net f.seats banks → AreSeated f banks
seats_are f banks full order h = record {
  full = full;
  in_order = order;
  known = h.known;
  specs = λ b block. subst (λ (r : Instance). IsSameButState (spec_of f.net b) r.spec) (sym (h.rows b block)) refl;
  lengths = λ b block. ap (λ (r : Instance). state_len r.spec) (sym (h.rows b block));
  apart = h.apart;
}
