use Rattle.std.proofs.Common.{◌≡◌, ap, sym, subst, ◌∙◌}
use Rattle.sci_store.specs.Blocks.{AreBlocksByNumber}
use Rattle.sci_store.specs.Marks.{mark_at}
use Rattle.sci_kept.specs.Kept.{Kept}
use Rattle.sci_kept.proofs.kept.Kept.clear.Goals as goal

pub clear-requires-clause-blocks : goal.clear-requires-clause-blocks
clear-requires-clause-blocks c = subst (λ (k : Kept). AreBlocksByNumber k.fixed.net c.args.blocks.now) (sym c.self.view_is) c.requires

pub returns-clause-others : goal.returns-clause-others
returns-clause-others c b out = c.clear.ensures.others b out ∙ ap (λ (k : Kept). mark_at k.store.marks b) c.self.view_is

pub returns-clause-rest : goal.returns-clause-rest
returns-clause-rest c = subst (λ (k : Kept). c.clear.new.self ≡ record k.store { marks = c.clear.new.self.marks }) c.self.view_is c.clear.ensures.rest

pub returns-clause-fixed : goal.returns-clause-fixed
returns-clause-fixed c = ap (λ (k : Kept). k.fixed) c.self.view_is
