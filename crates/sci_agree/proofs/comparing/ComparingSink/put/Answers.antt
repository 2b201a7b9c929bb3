use Rattle.std.proofs.Common.{rules}
use Rattle.sci_io.proofs.Advance.{direct_cut, took_nothing}
use Rattle.sci_agree.proofs.comparing.ComparingSink.put.Goals as goal

pub returns-then-is_some-clause-written : goal.returns-then-is_some-clause-written
returns-then-is_some-clause-written c =
    rw (← c.self.view_is) (direct_cut _ _ _ _ _ c.args.piece.now _ (took_nothing _ c.args.piece.now) (search rules) (search rules))
