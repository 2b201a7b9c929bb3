use Rattle.std.proofs.Common.{ap, sym, subst, ◌∙◌}
use Rattle.sci_net.specs.declared.Source.{Source}
use Rattle.sci_reaction.specs.Depends.{IsLoopFree}
use Rattle.sci_reaction.specs.Equations.{AreInRange}
use Rattle.sci_reaction.specs.Memory.{AreColumns, Memory, IsMemory}
use Rattle.sci_places.specs.Flat.{values_at}
use Rattle.sci_store.specs.Frame.{AreSeated}
use Rattle.sci_store.specs.Rows.{IsRowOf, HasBegun, KeepsBegun}
use Rattle.sci_store.specs.Store.{ShowsMemory}
use Rattle.sci_kept.specs.Kept.{Kept}
use Rattle.sci_store.specs.Reaction.{Passes}
use Rattle.sci_kept.proofs.kept.Kept.pass.Goals as goal

pub pass-requires-clause-seated : goal.pass-requires-clause-seated
pass-requires-clause-seated g c = subst (λ (k : Kept). AreSeated k.fixed c.args.lib.now) (sym c.self.view_is) c.requires.seated

pub pass-requires-clause-begun : goal.pass-requires-clause-begun
pass-requires-clause-begun g c = subst (λ (k : Kept). HasBegun k.fixed c.args.row.now k.store) (sym c.self.view_is) c.requires.begun

pub pass-requires-clause-columns : goal.pass-requires-clause-columns
pass-requires-clause-columns g c = subst (λ (k : Kept). AreColumns k.fixed.net c.args.inputs.now) (sym c.self.view_is) c.requires.columns

pub pass-requires-clause-row : goal.pass-requires-clause-row
pass-requires-clause-row g c =
    subst (λ (k : Kept). (s : Source) × IsLoopFree k.fixed.net s × IsRowOf k.fixed s c.args.row.now) (sym c.self.view_is) c.requires.row

pub pass-requires-clause-memory : goal.pass-requires-clause-memory
pass-requires-clause-memory g c =
    subst (λ (k : Kept). (m : Memory) × ShowsMemory k.fixed k.store c.args.lib.now m × IsMemory k.fixed.net m) (sym c.self.view_is) c.requires.memory

pub invariant_of-self : goal.invariant_of-self
invariant_of-self g c = c.pass.ensures.sound.store

pub returns-clause-passed : goal.returns-clause-passed
returns-clause-passed g c =
    subst (λ (k : Kept). Passes k.fixed c.args.inputs.now c.args.row.now k.store c.pass.new.self c.args.lib.now c.pass.new.lib c.pass.result) c.self.view_is c.pass.ensures.passed

pub returns-clause-seated : goal.returns-clause-seated
returns-clause-seated g c = subst (λ (k : Kept). AreSeated k.fixed c.pass.new.lib) c.self.view_is c.pass.ensures.sound.seated

pub returns-clause-values : goal.returns-clause-values
returns-clause-values g c =
    subst (λ (k : Kept). AreInRange k.fixed.net (values_at k.fixed.net c.pass.new.self.values)) c.self.view_is c.pass.ensures.values

pub returns-clause-kept : goal.returns-clause-kept
returns-clause-kept g c = subst (λ (k : Kept). KeepsBegun k.fixed c.args.row.now c.pass.new.self) c.self.view_is c.pass.ensures.kept

pub returns-clause-lines : goal.returns-clause-lines
returns-clause-lines g c = c.pass.ensures.lines ∙ ap (λ (k : Kept). k.store.lines) c.self.view_is

pub returns-clause-sum : goal.returns-clause-sum
returns-clause-sum g c = c.pass.ensures.sum ∙ ap (λ (k : Kept). k.store.sum) c.self.view_is

pub returns-clause-fixed : goal.returns-clause-fixed
returns-clause-fixed g c = ap (λ (k : Kept). k.fixed) c.self.view_is
