use Rattle.std.proofs.Common.{arith, ◌<◌, ◌≤◌}
use Rattle.sci_cgen_sources.proofs.SettleLemmas.{element_done, elements_none, all_done}
use Rattle.sci_cgen_sources.proofs.settle_texts.push_elements.Goals as goal

pub loop-at-preserved : goal.loop-at-preserved
loop-at-preserved c =
    let more : c.loop-at.at < c.args.count = omega arith in
    element_done c.args.block c.args.port c.args.start c.loop-at.at c.args.count _ _ _ _ more
    c.in_ok-push.ensures c.in_ok-value_shown.ensures c.loop-at.invariant

pub returns : goal.returns
returns c =
    let most : c.args.count ≤ c.loop-at.at = omega arith in
    all_done _ _ _ (elements_none c.args.block c.args.port _ _ c.args.count c.loop-at.at most) c.loop-at.invariant
