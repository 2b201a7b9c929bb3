use Rattle.std.proofs.Common.{ℕ, List, length, get_or, subst, arith}
use Rattle.sci_flat.specs.declared.reach.origins.Before.{Before}
use Rattle.sci_flat.specs.Origins.{AreAbove, Climb}
use Rattle.sci_flat.proofs.Origins.{rooted_origins, settled_origins, origins_below}
use Rattle.sci_flat.proofs.reach.origins.find_origins.Goals as goal

pub loop-target-init : goal.loop-target-init
loop-target-init c =
    let P : List Before → Type 0 = λ bs. AreAbove bs (length bs) c.in_ok-origins.origins.items in
    rooted_origins c.args.steps.now c.args.sources.now c.args.ports c.in_ok-befores.befores.items c.in_ok-origins.origins.items c.root_sources.new.origins.items c.requires.steps c.in_ok-befores.ensures
    (subst P c.deref.ensures.value c.in_ok-origins.ensures) c.root_sources.ensures

pub settle-requires : goal.settle-requires
settle-requires c =
    let Q : List ℕ → Type 0 = λ os. Climb os (get_or c.args.targets.now c.loop-target.target-index 0) c.last_origin-origin.result in
    let inside = c.requires.targets c.loop-target.target-index 0 c.loop-target-test.true in
    record {
      port = omega (arith, inside, c.loop-target.invariant.long);
      within = origins_below c.args.steps.now c.args.sources.now c.args.ports c.loop-target.origins.items c.loop-target.invariant;
      climb = subst Q c.deref-in-loop-target.ensures.value c.last_origin-origin.ensures;
    }

pub loop-target-preserved : goal.loop-target-preserved
loop-target-preserved c =
    let q = get_or c.args.targets.now c.loop-target.target-index 0 in
    let Q : List ℕ → Type 0 = λ os. Climb os q c.last_origin-origin.result in
    settled_origins c.args.steps.now c.args.sources.now c.args.ports c.loop-target.origins.items _ q c.last_origin-origin.result c.loop-target.invariant (c.requires.targets c.loop-target.target-index 0 c.loop-target-test.true)
    (subst Q c.deref-in-loop-target.ensures.value c.last_origin-origin.ensures) c.settle.ensures
