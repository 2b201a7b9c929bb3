use Rattle.std.proofs.Common.{drop}
use Rattle.sci_io.specs.Taken.{UnderWay}
use Rattle.sci_print.specs.Map.{outputs_text}
use Rattle.sci_print.proofs.net_map.map.put_outputs.Given as goal

-- the outputs so far are handed on, and the others are due still
abbrev pub invariant-loop-at : goal.invariant-loop-at
invariant-loop-at g l = UnderWay (g.S.Sink.state l.fn.out) (g.S.Sink.state l.out) (outputs_text l.ports) (outputs_text (drop l.at l.ports))
