use Rattle.std.proofs.Common.{◌≡◌, arith, rules}
use Rattle.std.proofs.Math.ListN.{set}
use Rattle.sci_loop.specs.Lists.{plain}
use Rattle.sci_loop.proofs.Adding.{plain-set, plain-set_same}
use Rattle.sci_loop.proofs.walk.lists.push_at.Goals as goal

pub returns-clause-lists : goal.returns-clause-lists
returns-clause-lists g c =
    plain-set c.args.lists.now.items c.args.at c.index_mut.result.now c.push.new.self c.args.item
    (omega (arith, c.args.lists.now.ok)) c.index_mut.ensures.value c.in_ok-push.ensures.items

pub returns-in_err-push-clause-err : goal.returns-in_err-push-clause-err
returns-in_err-push-clause-err g c =
    let same : plain (set c.args.lists.now.items c.args.at c.push.new.self) ≡ plain c.args.lists.now.items =
    plain-set_same c.args.lists.now.items c.args.at c.index_mut.result.now c.push.new.self (omega (arith, c.args.lists.now.ok)) c.index_mut.ensures.value c.in_err-push.ensures.items in
    search rules
