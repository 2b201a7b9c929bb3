use Rattle.std.proofs.Common.{subst}
use Rattle.sci_io.specs.Taken.{Writes}
use Rattle.sci_judge.specs.Against.{Against, told}
use Rattle.sci_judge.proofs.Told.{told_writes}
use Rattle.sci_judge.proofs.against.AgainstSink.put.Goals as goal

pub returns-clause-written : goal.returns-clause-written
returns-clause-written c =
    subst (λ (a : Against). Writes (told a) (told (record { compared = c.put.new.self })) c.args.piece.now c.put.result) c.self.view_is
    (told_writes c.self.inside.out c.put.new.self c.put.ensures.text c.args.piece.now c.put.result c.put.ensures.written)
