use Rattle.std.proofs.Common.{◌≡◌, ap, sym, subst, ◌∙◌, length, true}
use Rattle.sci_forms.specs.Form.{has_delay}
use Rattle.sci_net.specs.Parts.{IsBlock, spec_of}
use Rattle.sci_reaction.specs.Equations.{AreInRange}
use Rattle.sci_places.specs.Flat.{values_at}
use Rattle.sci_store.specs.Frame.{AreSeated}
use Rattle.sci_store.specs.Marks.{mark_at}
use Rattle.sci_store.proofs.Reacting.{store_alike, kept_room}
use Rattle.sci_kept.specs.Kept.{Kept}
use Rattle.sci_kept.proofs.kept.Kept.delay.Goals as goal

pub delay-requires-clause-seated : goal.delay-requires-clause-seated
delay-requires-clause-seated g c = subst (λ (k : Kept). AreSeated k.fixed c.args.lib.now) (sym c.self.view_is) c.requires.seated

pub delay-requires-clause-block : goal.delay-requires-clause-block
delay-requires-clause-block g c = subst (λ (k : Kept). IsBlock k.fixed.net c.args.block) (sym c.self.view_is) c.requires.block

pub delay-requires-clause-delayed : goal.delay-requires-clause-delayed
delay-requires-clause-delayed g c =
    subst (λ (k : Kept). has_delay (spec_of k.fixed.net c.args.block).kind ≡ true) (sym c.self.view_is) c.requires.delayed

pub delay-requires-clause-active : goal.delay-requires-clause-active
delay-requires-clause-active g c = subst (λ (k : Kept). (mark_at k.store.marks c.args.block).active ≡ true) (sym c.self.view_is) c.requires.active

pub delay-requires-clause-values : goal.delay-requires-clause-values
delay-requires-clause-values g c =
    subst (λ (k : Kept). AreInRange k.fixed.net (values_at k.fixed.net k.store.values)) (sym c.self.view_is) c.requires.values

pub invariant_of-self : goal.invariant_of-self
invariant_of-self g c =
    let s = c.self.inside.store in
    let t = c.delay.new.self in
    store_alike c.self.inside.frame s t (kept_room s t c.delay.ensures.same c.delay.ensures.room) c.self.invariant

pub returns-clause-same : goal.returns-clause-same
returns-clause-same g c = subst (λ (k : Kept). c.delay.new.self ≡ record k.store { room = c.delay.new.self.room }) c.self.view_is c.delay.ensures.same

pub returns-clause-room : goal.returns-clause-room
returns-clause-room g c = c.delay.ensures.room ∙ ap (λ (k : Kept). length k.store.room) c.self.view_is

pub returns-clause-fixed : goal.returns-clause-fixed
returns-clause-fixed g c = ap (λ (k : Kept). k.fixed) c.self.view_is
