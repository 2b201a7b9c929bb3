use Rattle.std.proofs.Common.{sym, subst}
use Rattle.std.specs.Prelude.{All, IfOk}
use Rattle.sci_net.specs.Parts.{IsBlock}
use Rattle.sci_reaction.specs.declared.entry.Entry.{Entry}
use Rattle.sci_store.specs.Rows.{IsRowFor}
use Rattle.sci_kept.specs.Kept.{Kept}
use Rattle.sci_kept.proofs.kept.Kept.row_of.Goals as goal

pub of-requires-clause-blocks : goal.of-requires-clause-blocks
of-requires-clause-blocks c =
    subst (λ (k : Kept). All (λ (e : Entry). IsBlock k.fixed.net e.block) c.args.entries.items) (sym c.self.view_is) c.requires.blocks

pub returns : goal.returns
returns c = subst (λ (k : Kept). IfOk c.of.result (λ r. IsRowFor k.fixed c.args.entries.items r)) c.self.view_is c.of.ensures
