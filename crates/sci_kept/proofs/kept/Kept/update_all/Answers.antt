use Rattle.std.proofs.Common.{ap, sym, subst}
use Rattle.sci_store.specs.Frame.{AreSeated}
use Rattle.sci_store.specs.Passed.{KeepsValues}
use Rattle.sci_store.specs.Rows.{IsReadyRow, KeepsBegun}
use Rattle.sci_store.specs.Runs.{MayStep}
use Rattle.sci_kept.specs.Kept.{Kept}
use Rattle.sci_store.specs.Reaction.{Steps}
use Rattle.sci_kept.proofs.kept.Kept.update_all.Goals as goal

pub update_all-requires-clause-seated : goal.update_all-requires-clause-seated
update_all-requires-clause-seated g c = subst (λ (k : Kept). AreSeated k.fixed c.args.lib.now) (sym c.self.view_is) c.requires.seated

pub update_all-requires-clause-row : goal.update_all-requires-clause-row
update_all-requires-clause-row g c = subst (λ (k : Kept). IsReadyRow k.fixed c.args.row.now) (sym c.self.view_is) c.requires.row

pub update_all-requires-clause-begun : goal.update_all-requires-clause-begun
update_all-requires-clause-begun g c = subst (λ (k : Kept). KeepsBegun k.fixed c.args.row.now k.store) (sym c.self.view_is) c.requires.begun

pub update_all-requires-clause-may_step : goal.update_all-requires-clause-may_step
update_all-requires-clause-may_step g c =
    subst (λ (k : Kept). MayStep k.fixed c.args.inputs.now k.store c.args.lib.now) (sym c.self.view_is) c.requires.may_step

pub returns-clause-stepped : goal.returns-clause-stepped
returns-clause-stepped g c =
    subst (λ (k : Kept). Steps k.fixed c.args.row.now k.store c.update_all.new.self c.args.lib.now c.update_all.new.lib) c.self.view_is c.update_all.ensures.stepped

pub returns-clause-values : goal.returns-clause-values
returns-clause-values g c = subst (λ (k : Kept). KeepsValues k.store c.update_all.new.self) c.self.view_is c.update_all.ensures.values

pub returns-clause-seated : goal.returns-clause-seated
returns-clause-seated g c = subst (λ (k : Kept). AreSeated k.fixed c.update_all.new.lib) c.self.view_is c.update_all.ensures.seated

pub returns-clause-fixed : goal.returns-clause-fixed
returns-clause-fixed g c = ap (λ (k : Kept). k.fixed) c.self.view_is
