use Rattle.std.proofs.Common.{◌<◌, ◌∙◌, length, refl, sym, subst, arith}
use Rattle.std.proofs.lemmas.List.{get_or_default}
use Rattle.sci_flat.specs.Origins.{Climb, here}
use Rattle.sci_flat.proofs.Origins.{climb_inside, settled_none, settled_more, settled_next}
use Rattle.sci_flat.proofs.reach.origins.settle.Goals as goal

pub loop-turn-init : goal.loop-turn-init
loop-turn-init c = record { settled = settled_none c.args.port c.args.origin c.args.origins.now.items; climb = here }

pub index-next-requires : goal.index-next-requires
index-next-requires c =
    let low = climb_inside c.args.origins.now.items c.args.port c.loop-turn.at c.requires.within c.requires.port c.loop-turn.invariant.climb in
    omega (arith, low, c.loop-turn.invariant.settled.long)

pub index_mut-requires : goal.index_mut-requires
index_mut-requires c =
    let low = climb_inside c.args.origins.now.items c.args.port c.loop-turn.at c.requires.within c.requires.port c.loop-turn.invariant.climb in
    omega (arith, low, c.loop-turn.invariant.settled.long)

pub loop-turn-preserved : goal.loop-turn-preserved
loop-turn-preserved c =
    let old = c.args.origins.now.items in
    let s = c.loop-turn.invariant.settled in
    let way = c.loop-turn.invariant.climb in
    let low = climb_inside old c.args.port c.loop-turn.at c.requires.within c.requires.port way in
    let there : c.loop-turn.at < length c.loop-turn.origins.items = omega (arith, low, s.long) in
    let next = settled_next c.args.port c.args.origin c.loop-turn.at old c.loop-turn.origins.items low way c.requires.climb s in
    record {
      settled = settled_more c.args.port c.args.origin c.loop-turn.at old c.loop-turn.origins.items _ low way refl s;
      climb = subst (Climb old c.args.port) (sym (c.index-next.ensures ∙ get_or_default c.loop-turn.origins.items c.loop-turn.at _ 0 there)) next;
    }
