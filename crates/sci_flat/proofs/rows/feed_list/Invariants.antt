use Rattle.std.proofs.Common.{◌≡◌, map, take}
use Rattle.sci_flat.specs.Wired.{feed_at}
use Rattle.sci_flat.proofs.rows.feed_list.Given as goal

abbrev pub invariant-loop-i : goal.invariant-loop-i
invariant-loop-i l = l.row.items ≡ map (feed_at l.feeds) (take l.i-index l.list)
