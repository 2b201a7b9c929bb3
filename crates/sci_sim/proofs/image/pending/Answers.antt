use Rattle.sci_sim.proofs.Saved.{taken_out, small_left}
use Rattle.sci_sim.proofs.image.pending.Goals as goal

pub loop-date-preserved : goal.loop-date-preserved
loop-date-preserved g c = record {
  listed = taken_out c.args.offset _ _ (c.in-Some.date, c.in-Some.source) c.loop-date.events.items c.push.new.self.items _ c.in-Some.ensures.taken c.in-Some.ensures.left c.in_ok-push.ensures.items
      c.loop-date.invariant.listed;
  small = small_left c.args.offset _ _ c.in-Some.ensures.left c.loop-date.invariant.small;
}
