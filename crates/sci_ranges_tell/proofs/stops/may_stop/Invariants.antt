use Rattle.std.proofs.Common.{◌≡◌, false}
use Rattle.sci_ranges_text.specs.Text.{may_stop}
use Rattle.sci_ranges_find.specs.View.{ranges_of}
use Rattle.sci_ranges_tell.specs.Told.{plain_table}
use Rattle.sci_ranges_tell.proofs.stops.may_stop.Given as goal

-- none of the blocks so far may
abbrev pub invariant-loop-at : goal.invariant-loop-at
invariant-loop-at l = may_stop (plain_table l.net (ranges_of l.table)) l.at ≡ false
