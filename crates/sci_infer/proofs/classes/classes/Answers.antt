use Rattle.std.proofs.Common.{arith}
use Rattle.sci_infer.proofs.Trees.{all_classes}
use Rattle.sci_infer.proofs.classes.classes.Goals as goal

pub join_all-requires-clause-forest : goal.join_all-requires-clause-forest
join_all-requires-clause-forest c i h =
    let long = c.in_ok-parents.ensures.length in
    let e = c.in_ok-parents.ensures.alone i (omega (arith, h, long)) in omega (arith, e)

pub returns : goal.returns
returns c =
    all_classes c.in_ok-parents.parents.items c.join_all.new.parents.items c.flatten.new.parents.items c.args.ties.now c.args.n
    c.in_ok-parents.ensures.length c.in_ok-parents.ensures.alone c.join_all.ensures c.flatten.ensures
