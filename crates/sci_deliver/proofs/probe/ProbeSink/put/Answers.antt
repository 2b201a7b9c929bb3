use Rattle.sci_deliver.proofs.Probing.{first_index}
use Rattle.sci_deliver.proofs.probe.ProbeSink.put.Goals as goal

pub returns-in-None-clause-written : goal.returns-in-None-clause-written
returns-in-None-clause-written c = rw c.in-None.is (first_index c.args.self.now.more c.args.self.now.failing c.args.piece.now _ c.requires)
