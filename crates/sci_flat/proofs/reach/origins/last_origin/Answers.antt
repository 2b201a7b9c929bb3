use Rattle.sci_flat.specs.Origins.{here, up}
use Rattle.sci_flat.proofs.reach.origins.last_origin.Goals as goal

pub loop-turn-init : goal.loop-turn-init
loop-turn-init c = record { climb = here; inside = c.requires.port }

pub returns-then-origin-at : goal.returns-then-origin-at
returns-then-origin-at c = c.loop-turn.invariant.climb

pub loop-turn-preserved : goal.loop-turn-preserved
loop-turn-preserved c = record { climb = up c.loop-turn.invariant.climb; inside = c.requires.within c.loop-turn.at 0 c.loop-turn.invariant.inside }

pub returns : goal.returns
returns c = c.loop-turn.invariant.climb
