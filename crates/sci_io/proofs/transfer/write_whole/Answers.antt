use Rattle.sci_io.proofs.Transfers.{wrote_more, rest_of}
use Rattle.sci_io.proofs.transfer.write_whole.Goals as goal

pub loop-rest-preserved : goal.loop-rest-preserved
loop-rest-preserved g c = wrote_more c.loop-rest.rest.now _ c.in-Ok.count (rest_of c.in-Ok.count c.loop-rest.rest.now) c.loop-rest.invariant c.in-Ok.ensures.bytes
