use Rattle.std.proofs.Common.{◌<◌, arith, length}
use Rattle.sci_loop.specs.Lists.{plain}
use Rattle.c_rules.specs.Bodies.{callees_in, assigners_in}
use Rattle.c_rules.proofs.Assigning.{on_either, sound_called, callers_called, callers_kept}
use Rattle.c_rules.proofs.bodies.Bodies.call.Goals as goal

pub invariant_of-self-2 : goal.invariant_of-self-2
invariant_of-self-2 c =
    let self = c.args.self.now in
    let ls = callees_in self in
    let ms = plain c.push_at.new.lists.items in
    let e = c.in_ok-push_at.ensures.lists in
    let inside : self.last < length ls = omega (arith, self.sound.bodies) in
    record {
      sound = sound_called ls ms (assigners_in self) self.last c.args.body self.walk.count e c.requires self.sound;
      long = self.long;
      called = on_either c.put.result c.put.ensures.there c.put.ensures.err (λ there. callers_called ls ms self.callers.items self.last c.args.body inside e self.called c.put.new.values.items there c.put.ensures.others) (λ same. callers_kept ls ms self.callers.items self.last c.args.body inside e self.called c.put.new.values.items same);
    }
