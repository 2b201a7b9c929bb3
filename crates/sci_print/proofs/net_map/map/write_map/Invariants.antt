use Rattle.std.proofs.Common.{length, ◌+◌, ◌-◌}
use Rattle.sci_io.specs.Taken.{UnderWay}
use Rattle.sci_print.specs.Map.{lines_from, map_text}
use Rattle.sci_print.proofs.net_map.map.write_map.Given as goal

-- the lines so far are handed on, and the others are due still
abbrev pub invariant-loop-at : goal.invariant-loop-at
invariant-loop-at g l = UnderWay (g.S.Sink.state l.fn.out) (g.S.Sink.state l.out) (map_text l.net) (lines_from l.net (l.at + 1) (length l.net.specs - l.at))
