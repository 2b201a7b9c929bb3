use Rattle.std.proofs.Common.{◌≡◌, ◌∙◌, ◌<◌, List, refl, sym, ap, subst, arith, length, Vec}
use Rattle.std.specs.declared.alloc.Global.{Global}
use Rattle.std.proofs.lemmas.List.{length-map}
use Rattle.sci_net.specs.declared.Source.{Source}
use Rattle.sci_net.specs.Sources.{source_of}
use Rattle.sci_loop.specs.Lists.{plain, list_at}
use Rattle.sci_loop.proofs.Adding.{list_at-plain}
use Rattle.sci_inherit.specs.declared.Fed.{Fed}
use Rattle.sci_inherit.specs.Gather.{AreFeeding, AreAlways}
use Rattle.sci_inherit.proofs.Sourced.{each_none, each_pushed}
use Rattle.sci_inherit.proofs.always.always.Goals as goal

pub loop-at-init : goal.loop-at-init
loop-at-init c =
    let n = c.args.net.now in
    record { count = refl; len = c.new-always.ensures.len; each = each_none (λ k bs. AreAlways n (source_of n k) bs) (plain c.new-always.result.items) (ap plain c.new-always.ensures.items) }

pub always_of-requires-clause-walk : goal.always_of-requires-clause-walk
always_of-requires-clause-walk c = c.loop-at.invariant.count ∙ c.requires.walk

pub always_of-requires-clause-fed : goal.always_of-requires-clause-fed
always_of-requires-clause-fed c =
    let n = c.args.net.now in
    let at = c.loop-at.at in
    let fs = c.args.feeding.now in
    let inside : at < length fs = omega (arith, c.loop-at-test.true, c.source_count-at-end.ensures, c.requires.len) in
    let long = length-map fs (λ (v : Vec Fed Global). v.items) in
    let is : c.deref.result.now ≡ list_at (plain fs) at = c.deref.ensures.value ∙ sym (list_at-plain fs at c.index-feeding-at.result inside c.index-feeding-at.is) in
    subst (λ (s : Source). AreFeeding n s c.deref.result.now) (sym c.source.ensures)
    (subst (λ (l : List Fed). AreFeeding n (source_of n at) l) (sym is) (c.requires.feeding at (omega (arith, inside, long))))

pub returns-in_err-always_of-clause-count : goal.returns-in_err-always_of-clause-count
returns-in_err-always_of-clause-count c = c.always_of.ensures.count ∙ c.loop-at.invariant.count

pub returns-in_err-push-clause-count : goal.returns-in_err-push-clause-count
returns-in_err-push-clause-count c = c.always_of.ensures.count ∙ c.loop-at.invariant.count

pub loop-at-preserved : goal.loop-at-preserved
loop-at-preserved c =
    let n = c.args.net.now in
    let at = c.loop-at.at in
    let inv = c.loop-at.invariant in
    let v = c.in_ok-always_of.field-0 in
    record {
      count = c.always_of.ensures.count ∙ inv.count;
      len = omega (arith, c.in_ok-push.ensures.len, inv.len);
      each = each_pushed (λ k bs. AreAlways n (source_of n k) bs) at c.loop-at.always.items c.push.new.self.items v c.in_ok-push.ensures.items (omega (arith, inv.len, c.loop-at.always.ok.0))
          (subst (λ (s : Source). AreAlways n s v.items) c.source.ensures c.in_ok-always_of.ensures.always) inv.each;
    }

pub returns-clause-always : goal.returns-clause-always
returns-clause-always c = c.loop-at.invariant.each

pub returns-clause-len : goal.returns-clause-len
returns-clause-len c = omega (arith, c.loop-at.invariant.len, c.loop-at-test.false, c.loop-at.auto.at-end, c.source_count-at-end.ensures)

pub returns-clause-count : goal.returns-clause-count
returns-clause-count c = c.loop-at.invariant.count
