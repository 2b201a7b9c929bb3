use Rattle.std.proofs.Common.{◌≡◌, take, map, []}
use Rattle.sci_net.specs.Parts.{numbered}
use Rattle.sci_places.specs.Layout.{output_span}
use Rattle.sci_places.proofs.laying.block_place.Given as goal

abbrev pub invariant-loop-port : goal.invariant-loop-port
invariant-loop-port l = l.ins.items ≡ map (output_span l.net) (take l.port (numbered [] l.net.wires l.block))
