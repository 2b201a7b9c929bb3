use Rattle.std.proofs.Common.{List, sym, ap, subst, arith}
use Rattle.sci_net.specs.Sources.{source_of}
use Rattle.sci_loop.specs.Lists.{plain}
use Rattle.sci_inherit.specs.declared.Fed.{Fed}
use Rattle.sci_inherit.specs.Followers.{AreInOrder}
use Rattle.sci_inherit.specs.Gather.{AreFeeding}
use Rattle.sci_inherit.proofs.Sourced.{each_none, each_pushed}
use Rattle.sci_inherit.proofs.always.feeding.Goals as goal

pub loop-at-init : goal.loop-at-init
loop-at-init c =
    let n = c.args.net.now in
    record { len = c.new-feeding.ensures.len; each = each_none (λ k fs. AreFeeding n (source_of n k) fs) (plain c.new-feeding.result.items) (ap plain c.new-feeding.ensures.items); in_order = each_none (λ k fs. AreInOrder fs) (plain c.new-feeding.result.items) (ap plain c.new-feeding.ensures.items) }

pub fed_by-fed-requires-clause-source : goal.fed_by-fed-requires-clause-source
fed_by-fed-requires-clause-source c = omega (arith, c.loop-at-test.true, c.source_count-at-end.ensures)

pub loop-at-preserved : goal.loop-at-preserved
loop-at-preserved c =
    let n = c.args.net.now in
    let at = c.loop-at.at in
    let inv = c.loop-at.invariant in
    let v = c.in_ok-from_slice.field-0 in
    let fed : AreFeeding n (source_of n at) v.items =
    subst (λ (fs : List Fed). AreFeeding n (source_of n at) fs) (sym c.in_ok-from_slice.ensures.items) c.fed_by-fed.ensures.feeding in
    record {
      len = omega (arith, c.in_ok-push.ensures.len, inv.len);
      each = each_pushed (λ k fs. AreFeeding n (source_of n k) fs) at c.loop-at.feeding.items c.push.new.self.items v c.in_ok-push.ensures.items (omega (arith, inv.len, c.loop-at.feeding.ok.0)) fed inv.each;
      in_order = each_pushed (λ k fs. AreInOrder fs) at c.loop-at.feeding.items c.push.new.self.items v c.in_ok-push.ensures.items (omega (arith, inv.len, c.loop-at.feeding.ok.0))
          (subst AreInOrder (sym c.in_ok-from_slice.ensures.items) c.fed_by-fed.ensures.in_order) inv.in_order;
    }

pub returns-clause-feeding : goal.returns-clause-feeding
returns-clause-feeding c = c.loop-at.invariant.each

pub returns-clause-in_order : goal.returns-clause-in_order
returns-clause-in_order c = c.loop-at.invariant.in_order

pub returns-clause-len : goal.returns-clause-len
returns-clause-len c = omega (arith, c.loop-at.invariant.len, c.loop-at-test.false, c.loop-at.auto.at-end, c.source_count-at-end.ensures)
