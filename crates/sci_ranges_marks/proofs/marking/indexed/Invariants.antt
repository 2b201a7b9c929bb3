use Rattle.std.proofs.Common.{◌≡◌, length, map, take}
use Rattle.sci_ranges_marks.specs.View.{lists_of, row_of}
use Rattle.sci_ranges_marks.proofs.marking.indexed.Given as goal

abbrev pub invariant-loop-row : goal.invariant-loop-row
invariant-loop-row l = map row_of l.ready.items ≡ lists_of (take (length l.yielded) l.fn.rows.items)
