use Rattle.std.proofs.Common.{◌≡◌, ◌++◌, ◌+◌, drop}
use Rattle.sci_flat.specs.Ends.{numbers_of, ends_of}
use Rattle.sci_flat.proofs.ends.Ends.of.Given as goal

abbrev pub invariant-loop-seat : goal.invariant-loop-seat
invariant-loop-seat l = record {
  block : l.block ≡ l.seat-index;
  numbers : l.ends.numbers.items ++ numbers_of l.class (drop l.seat-index l.seats) ≡ numbers_of l.class l.seats;
  feeds : l.ends.feeds.items ++ ends_of l.class (l.seat-index + 1) (drop l.seat-index l.seats) ≡ ends_of l.class 1 l.seats;
}
