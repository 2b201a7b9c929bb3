use Rattle.std.proofs.Common.{◌≡◌, ap, sym, subst}
use Rattle.sci_store.specs.Rows.{IsReadyRow, HasBegun, KeepsBegun}
use Rattle.sci_kept.specs.Kept.{Kept}
use Rattle.sci_kept.proofs.kept.Kept.begin_again.Goals as goal

pub begin_again-requires-clause-row : goal.begin_again-requires-clause-row
begin_again-requires-clause-row c = subst (λ (k : Kept). IsReadyRow k.fixed c.args.row.now) (sym c.self.view_is) c.requires.row

pub begin_again-requires-clause-passed : goal.begin_again-requires-clause-passed
begin_again-requires-clause-passed c = subst (λ (k : Kept). KeepsBegun k.fixed c.args.row.now k.store) (sym c.self.view_is) c.requires.passed

pub returns-clause-begun : goal.returns-clause-begun
returns-clause-begun c = subst (λ (k : Kept). HasBegun k.fixed c.args.row.now c.begin_again.new.self) c.self.view_is c.begin_again.ensures.begun

pub returns-clause-rest : goal.returns-clause-rest
returns-clause-rest c =
    subst (λ (k : Kept). c.begin_again.new.self ≡ record k.store { marks = c.begin_again.new.self.marks }) c.self.view_is c.begin_again.ensures.rest

pub returns-clause-fixed : goal.returns-clause-fixed
returns-clause-fixed c = ap (λ (k : Kept). k.fixed) c.self.view_is
