use Rattle.std.proofs.Common.{◌∷◌, [], ◌++◌, ◌∙◌, ap, refl, ℕ, arith}
use Rattle.std.proofs.lemmas.Grind.{get_or_default_zero}
use Rattle.sci_flat.specs.Successors.{from_at}
use Rattle.sci_flat.proofs.ReachFilling.{from_within}
use Rattle.sci_flat.proofs.Leading.{listed_more}
use Rattle.sci_flat.proofs.reach.successors.successors_of.Goals as goal

pub index-requires : goal.index-requires
index-requires c =
    let inside = from_within c.args.ports c.args.steps.now c.loop-i.i (0, 0) (omega arith) c.requires in
    omega (arith, inside, c.loop-i.latest.ok, c.loop-i.invariant.ports_long)

pub index_mut-requires : goal.index_mut-requires
index_mut-requires c =
    let inside = from_within c.args.ports c.args.steps.now c.loop-i.i (0, 0) (omega arith) c.requires in
    omega (arith, inside, c.loop-i.latest.ok, c.loop-i.invariant.ports_long)

pub loop-i-preserved : goal.loop-i-preserved
loop-i-preserved c =
    let from = from_at c.args.steps.now c.loop-i.i in
    let inside = from_within c.args.ports c.args.steps.now c.loop-i.i (0, 0) (omega arith) c.requires in
    let at = get_or_default_zero c.loop-i.latest.items from c.index.result.now (omega (arith, inside, c.loop-i.invariant.ports_long)) in
    listed_more c.args.steps.now c.args.ports c.loop-i.latest.items c.loop-i.earlier.items _ c.push.new.self.items c.loop-i.i from inside refl refl
    (c.in_ok-push.ensures.items ∙ ap (λ (x : ℕ). c.loop-i.earlier.items ++ x ∷ []) (c.index.ensures ∙ at)) c.loop-i.invariant
