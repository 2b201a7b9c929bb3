use Rattle.std.proofs.Common.{◌≡◌, sym, subst, map}
use Rattle.std.proofs.lemmas.Result.{IfOk-weaker}
use Rattle.sci_net.specs.declared.Source.{Source}
use Rattle.sci_inherit.specs.Gather.{AreFeeding, AreSetOff}
use Rattle.sci_inherit.proofs.Sourced.{port_sets_off}
use Rattle.sci_inherit.proofs.always.set_off.Goals as goal

pub returns-in-Port : goal.returns-in-Port
returns-in-Port c =
    let n = c.args.net.now in
    let q = c.in-Port.field-0 in
    let fs = c.args.fed.now in
    IfOk-weaker c.blocks_of.result (λ v. v.items ≡ map (λ f. f.block) fs) (λ v. AreSetOff n c.args.source v.items)
    (λ v e. subst (λ (s : Source). AreSetOff n s v.items) (sym c.in-Port.is)
    (port_sets_off n q fs v.items c.well_formed-2.ensures (subst (λ (s : Source). AreFeeding n s fs) c.in-Port.is c.requires) e))
    c.blocks_of.ensures
