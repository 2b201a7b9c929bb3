use Rattle.std.proofs.Common.{◌<◌, ◌^◌, Bool, List, length, sym, subst, arith}
use Rattle.sci_ranges_find.proofs.Counted.{evtout_few}
use Rattle.sci_ranges_find.proofs.live.first_dead.Goals as goal

pub dead_to-requires : goal.dead_to-requires
dead_to-requires c = evtout_few c.args.spec.now c.requires

pub returns-then-is_sync : goal.returns-then-is_sync
returns-then-is_sync c = let few = evtout_few c.args.spec.now c.requires in omega (arith, few, c.in_ok-dead.ensures)

pub returns : goal.returns
returns c = subst (λ (x : List Bool). length x < 2 ^ 32) (sym c.new.ensures.items) (omega arith)
