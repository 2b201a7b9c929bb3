use Rattle.sci_sched.proofs.Ranking.{exactly, ordered}
use Rattle.sci_sched.proofs.ranks.by_depth.Goals as goal

pub returns-clause-exactly : goal.returns-clause-exactly
returns-clause-exactly c =
    exactly c.args.depths.now c.args.blocks.now c.in_ok-ranks.ranks.items c.sort_unstable.new.self.items c.deref.result.now c.ranked.result c.requires.rising c.in_ok-ranks.ensures
    c.sort_unstable.ensures.permutation c.deref.ensures.value c.ranked.ensures

pub returns-clause-ordered : goal.returns-clause-ordered
returns-clause-ordered c =
    ordered c.args.depths.now c.args.blocks.now c.in_ok-ranks.ranks.items c.sort_unstable.new.self.items c.deref.result.now c.ranked.result c.requires.rising c.in_ok-ranks.ensures
    c.sort_unstable.ensures.permutation c.deref.ensures.value c.sort_unstable.ensures.sorted c.ranked.ensures
