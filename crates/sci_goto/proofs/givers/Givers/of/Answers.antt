use Rattle.std.proofs.Common.{map, take, rules}
use Rattle.sci_base.specs.Stops.{Stops}
use Rattle.sci_goto.specs.Phase.{no_tags, gathered}
use Rattle.sci_goto.specs.Placed.{standing_of}
use Rattle.sci_goto.proofs.Gathering.{none_joined, take_standing, long_standing, rest_standing, gathered_more, gathered_stop}
use Rattle.sci_goto.proofs.givers.Givers.of.Goals as goal

pub loop-n-init : goal.loop-n-init
loop-n-init c = none_joined c.new-givers.result c.new-givers.ensures

pub loop-n-preserved : goal.loop-n-preserved
loop-n-preserved c =
    let ts = c.args.tags.now in
    let ss = map standing_of (take c.loop-n.n ts) in
    let t = c.index-tags-n.result in
    let so = c.loop-n.invariant in
    let more = c.in_ok-add.ensures.ok ss so.more (long_standing ts c.loop-n.n c.loop-n-test.true) so.holds in
    rw (take_standing ts c.loop-n.n t c.loop-n-test.true c.index-tags-n.is) (gathered_more c.loop-n.givers c.add.new.self ss (standing_of t) so more)

pub returns-in_err-add-clause-stop : goal.returns-in_err-add-clause-stop
returns-in_err-add-clause-stop c =
    let ts = c.args.tags.now in
    let ss = map standing_of (take c.loop-n.n ts) in
    let t = c.index-tags-n.result in
    let so = c.loop-n.invariant in
    let e = c.in_err-add.field-0.0 in
    let stops : Stops (gathered no_tags (map standing_of ts)) e =
    rw (rest_standing ts c.loop-n.n t c.loop-n-test.true c.index-tags-n.is)
    (gathered_stop c.loop-n.givers ss _ (standing_of t) e so (c.in_err-add.ensures.stop ss so.more so.holds)) in
    search (rules, stops)
