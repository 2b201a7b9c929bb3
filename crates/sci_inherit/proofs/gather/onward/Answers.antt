use Rattle.std.proofs.Common.{◌∙◌, ◌+◌, refl, ap, arith, length}
use Rattle.sci_loop.specs.Lists.{plain}
use Rattle.sci_inherit.specs.Gather.{AreOnward}
use Rattle.sci_inherit.proofs.Sourced.{each_none, each_pushed, onward_of_none}
use Rattle.sci_inherit.proofs.gather.onward.Goals as goal

pub loop-at-init : goal.loop-at-init
loop-at-init c =
    let n = c.args.net.now in
    record {
      count = refl;
      len = omega (arith, c.in_ok-push.ensures.len, c.new-onward.ensures.len);
      each = each_pushed (AreOnward n) 0 c.new-onward.result.items c.push.new.self.items c.new.result c.in_ok-push.ensures.items (ap length c.new-onward.ensures.items)
          (onward_of_none n c.new.result.items c.well_formed-2.ensures c.new.ensures.items) (each_none (AreOnward n) (plain c.new-onward.result.items) (ap plain c.new-onward.ensures.items));
    }

pub onward_of-requires-clause-walk : goal.onward_of-requires-clause-walk
onward_of-requires-clause-walk c = c.loop-at.invariant.count ∙ c.requires.walk

pub loop-at-preserved : goal.loop-at-preserved
loop-at-preserved c =
    let inv = c.loop-at.invariant in
    record {
      count = c.onward_of.ensures.count ∙ inv.count;
      len = omega (arith, c.in_ok-push-2.ensures.len, inv.len);
      each = each_pushed (AreOnward c.args.net.now) (c.loop-at.at + 1) c.loop-at.onward.items c.push-in-loop-at.new.self.items c.in_ok-onward_of.field-0 c.in_ok-push-2.ensures.items
          (omega (arith, inv.len, c.loop-at.onward.ok.0)) c.in_ok-onward_of.ensures.onward inv.each;
    }

pub returns-clause-onward : goal.returns-clause-onward
returns-clause-onward c = c.loop-at.invariant.each

pub returns-clause-len : goal.returns-clause-len
returns-clause-len c = omega (arith, c.loop-at.invariant.len, c.loop-at-test.false, c.loop-at.auto.at-end, c.len-at-end.ensures)

pub returns-clause-count : goal.returns-clause-count
returns-clause-count c = c.loop-at.invariant.count

pub returns-in_err-onward_of-clause-count : goal.returns-in_err-onward_of-clause-count
returns-in_err-onward_of-clause-count c = c.onward_of.ensures.count ∙ c.loop-at.invariant.count

pub returns-in_err-push-2-clause-count : goal.returns-in_err-push-2-clause-count
returns-in_err-push-2-clause-count c = c.onward_of.ensures.count ∙ c.loop-at.invariant.count
