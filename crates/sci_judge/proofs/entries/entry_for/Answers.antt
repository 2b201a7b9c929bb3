use Rattle.sci_judge.proofs.Guarded.{branch_there}
use Rattle.sci_judge.proofs.entries.entry_for.Goals as goal

pub returns-clause-tells : goal.returns-clause-tells
returns-clause-tells c = record {
  always_is = (
    (λ on. (c.requires.always c.args.rank.block).0 (c.has.ensures.0 on)),
    λ is. c.has.ensures.1 ((c.requires.always c.args.rank.block).1 is),
  );
  mask_is = c.source_mask.ensures;
  branches = c.in_ok-guards.ensures.reach;
  all = λ q may sync reaches.
      c.in_ok-guards.ensures.all q (branch_there c.args.net.now c.args.reach.now c.requires.reach c.args.rank.block c.args.source q c.requires.source may sync reaches)
      ((c.requires.possible q.block).1 may);
}
