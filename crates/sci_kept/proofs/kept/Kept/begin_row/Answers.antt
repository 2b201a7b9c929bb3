use Rattle.std.proofs.Common.{◌≡◌, ap, sym, subst}
use Rattle.sci_store.specs.Rows.{IsReadyRow, HasBegun}
use Rattle.sci_store.specs.Store.{AreIdle}
use Rattle.sci_kept.specs.Kept.{Kept}
use Rattle.sci_kept.proofs.kept.Kept.begin_row.Goals as goal

pub begin_row-requires-clause-idle : goal.begin_row-requires-clause-idle
begin_row-requires-clause-idle c = subst (λ (k : Kept). AreIdle k.fixed k.store) (sym c.self.view_is) c.requires.idle

pub begin_row-requires-clause-row : goal.begin_row-requires-clause-row
begin_row-requires-clause-row c = subst (λ (k : Kept). IsReadyRow k.fixed c.args.row.now) (sym c.self.view_is) c.requires.row

pub returns-clause-begun : goal.returns-clause-begun
returns-clause-begun c = subst (λ (k : Kept). HasBegun k.fixed c.args.row.now c.begin_row.new.self) c.self.view_is c.begin_row.ensures.begun

pub returns-clause-rest : goal.returns-clause-rest
returns-clause-rest c =
    subst (λ (k : Kept). c.begin_row.new.self ≡ record k.store { marks = c.begin_row.new.self.marks }) c.self.view_is c.begin_row.ensures.rest

pub returns-clause-fixed : goal.returns-clause-fixed
returns-clause-fixed c = ap (λ (k : Kept). k.fixed) c.self.view_is
