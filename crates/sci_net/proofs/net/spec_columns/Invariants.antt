use Rattle.std.proofs.Common.{◌≡◌, ◌+◌, ◌++◌, drop}
use Rattle.sci_net.specs.Sources.{columns_from}
use Rattle.sci_net.proofs.net.spec_columns.Given as goal

abbrev pub invariant-loop-at : goal.invariant-loop-at
invariant-loop-at l = l.columns.items ++ columns_from (l.at + 1) (drop l.at l.specs) ≡ columns_from 1 l.specs
