use Rattle.sci_vcd.proofs.Blaming.{accepts, blames}
use Rattle.sci_vcd.proofs.read.read_vcd.Goals as goal

pub returns-clause-dump : goal.returns-clause-dump
returns-clause-dump c = accepts c.args.bytes.now c.read.result c.read.ensures

pub returns-clause-line : goal.returns-clause-line
returns-clause-line c = blames c.args.bytes.now c.read.result c.read.ensures
