use Rattle.std.proofs.Common.{◌≡◌, map, take}
use Rattle.sci_net.specs.Parts.{rows_of}
use Rattle.sci_flat.specs.Lists.{plain}
use Rattle.sci_flat.specs.Wired.{feed_at}
use Rattle.sci_flat.proofs.rows.feed_rows.Given as goal

abbrev pub invariant-loop-list : goal.invariant-loop-list
invariant-loop-list l = rows_of l.rows.items ≡ map (map (feed_at l.feeds)) (plain (take l.list-index l.lists))
