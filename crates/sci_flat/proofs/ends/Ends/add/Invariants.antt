use Rattle.std.proofs.Common.{◌≡◌, ◌++◌, map}
use Rattle.std.specs.List.{range_with_len}
use Rattle.sci_flat.specs.Ends.{end_of}
use Rattle.sci_flat.proofs.ends.Ends.add.Given as goal

abbrev pub invariant-loop-k : goal.invariant-loop-k
invariant-loop-k l = record {
  numbers : l.self.numbers.items ≡ l.fn.self.numbers.items ++ range_with_len l.first l.k;
  feeds : l.self.feeds.items ≡ l.fn.self.feeds.items ++ map (end_of l.block) (range_with_len 1 l.k);
}
