use Rattle.std.proofs.Common.{◌+◌, ◌-◌}
use Rattle.sci_io.specs.Taken.{UnderWay}
use Rattle.sci_ranges_text.specs.Text.{elements_text}
use Rattle.sci_ranges_find.specs.View.{ranges_of}
use Rattle.sci_ranges_tell.specs.Told.{plain_table}
use Rattle.sci_ranges_tell.proofs.elements.put_elements.Given as goal

-- the elements so far are handed on, and the others are due still
abbrev pub invariant-loop-e : goal.invariant-loop-e
invariant-loop-e g l =
    UnderWay (g.S.Sink.state l.fn.out) (g.S.Sink.state l.out) (elements_text l.net (plain_table l.net (ranges_of l.table)) l.block l.port 1 l.at l.count)
    (elements_text l.net (plain_table l.net (ranges_of l.table)) l.block l.port (l.e + 1) (l.at + l.e) (l.count - l.e))
