use Rattle.std.proofs.Common.{FitsSigned, w64, rules, ◌∙◌}
use Rattle.std.proofs.lemmas.Int.{to_z-of_z}
use Rattle.sci_forms.specs.Words.{held_of}
use Rattle.sci_store.proofs.Stored.{listed_more}
use Rattle.sci_store.proofs.store.push_held.Goals as goal

pub loop-at-preserved : goal.loop-at-preserved
loop-at-preserved c =
    let fits : FitsSigned w64 c.held.result = search rules in
    listed_more (held_of c.args.spec.now.kind c.args.spec.now) c.args.values.now.items c.loop-at.values.items c.push.new.self.items c.loop-at.at _
    c.loop-at.invariant (to_z-of_z w64 c.held.result fits ∙ c.held.ensures) c.in_ok-push.ensures.items
