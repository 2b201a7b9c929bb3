use Rattle.std.proofs.Common.{sym, subst}
use Rattle.sci_net.specs.Parts.{IsBlock}
use Rattle.sci_kept.specs.Kept.{Kept}
use Rattle.sci_kept.proofs.kept.Kept.held.Goals as goal

pub held-requires-clause-block : goal.held-requires-clause-block
held-requires-clause-block c = subst (λ (k : Kept). IsBlock k.fixed.net c.args.block) (sym c.self.view_is) c.requires
