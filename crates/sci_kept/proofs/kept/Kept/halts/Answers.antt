use Rattle.std.proofs.Common.{sym, subst}
use Rattle.sci_store.specs.Blocks.{AreBlocksByNumber}
use Rattle.sci_kept.specs.Kept.{Kept}
use Rattle.sci_store.specs.Reaction.{TellsHalt}
use Rattle.sci_kept.proofs.kept.Kept.halts.Goals as goal

pub halts-requires-clause-blocks : goal.halts-requires-clause-blocks
halts-requires-clause-blocks c = subst (λ (k : Kept). AreBlocksByNumber k.fixed.net c.args.blocks.now) (sym c.self.view_is) c.requires

pub returns : goal.returns
returns c = subst (λ (k : Kept). TellsHalt k.fixed k.store c.args.blocks.now c.halts.result) c.self.view_is c.halts.ensures
