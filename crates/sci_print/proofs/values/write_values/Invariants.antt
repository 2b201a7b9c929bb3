use Rattle.std.proofs.Common.{drop, ◌+◌}
use Rattle.sci_io.specs.Taken.{UnderWay}
use Rattle.sci_print.specs.Values.{texts_from, values_text}
use Rattle.sci_print.proofs.values.write_values.Given as goal

-- the lines so far are handed on, and the others are due still
abbrev pub invariant-loop-at : goal.invariant-loop-at
invariant-loop-at g l = UnderWay (g.S.Sink.state l.fn.out) (g.S.Sink.state l.out) (values_text l.dump l.tick) (texts_from l.dump l.tick (l.at + 1) (drop l.at l.dump.signals))
