use Rattle.std.proofs.Common.{length, ◌+◌, ◌-◌}
use Rattle.sci_io.specs.Taken.{UnderWay}
use Rattle.sci_ranges_text.specs.Text.{states_text, block_state, of_each}
use Rattle.sci_ranges_find.specs.View.{ranges_of}
use Rattle.sci_ranges_tell.specs.Told.{plain_table}
use Rattle.sci_ranges_tell.proofs.table.put_states.Given as goal

-- the blocks so far are handed on, and the others are due still
abbrev pub invariant-loop-at : goal.invariant-loop-at
invariant-loop-at g l = UnderWay (g.S.Sink.state l.fn.out) (g.S.Sink.state l.out) (states_text l.net (plain_table l.net (ranges_of l.table))) (of_each (block_state l.net (plain_table l.net (ranges_of l.table))) (l.at + 1) (length l.net.specs - l.at))
