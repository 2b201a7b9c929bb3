use Rattle.std.proofs.Common.{◌≡◌, ◌↔◌, ◌∙◌, ℕ, sym, subst, arith, length}
use Rattle.std.specs.Prelude.{Contains}
use Rattle.sci_reaction.specs.Links.{IsConstant}
use Rattle.sci_inherit.specs.Live.{SetOffUpto}
use Rattle.sci_inherit.specs.Gather.{AreConstants}
use Rattle.sci_inherit.proofs.Gathering.{blocks_inside}
use Rattle.sci_inherit.proofs.Sourced.{start_sets_off}
use Rattle.sci_inherit.proofs.Living.{set_off_none, set_off_next}
use Rattle.sci_inherit.proofs.live.find_set_off.Goals as goal

pub take-requires : goal.take-requires
take-requires c =
    let n = c.args.net.now in
    let are = subst (AreConstants n (length n.specs)) (sym c.deref.ensures.value) c.in_ok-constants.ensures in
    blocks_inside n c.args.walk.now.count c.deref.result.now c.requires.walk (λ b h. let t = (are.exactly b).0 h in t.1.block)

pub loop-at-init : goal.loop-at-init
loop-at-init c =
    let n = c.args.net.now in
    let are = subst (AreConstants n (length n.specs)) (sym c.deref.ensures.value) c.in_ok-constants.ensures in
    let found : (b : ℕ) → Contains c.take.new.self.found b ↔ IsConstant n b = λ b.
    let taken = c.in_ok-take.ensures.found b in
    let off = start_sets_off n c.deref.result.now are b in
    ((λ h. off.0 (taken.0 h)), λ h. taken.1 (off.1 h)) in
    record { count = c.in_ok-take.ensures.count; found = set_off_none n c.take.new.self.found found c.well_formed-2.ensures }

pub add_targets-requires-clause-walk : goal.add_targets-requires-clause-walk
add_targets-requires-clause-walk c = c.loop-at.invariant.count ∙ c.requires.walk

pub loop-at-preserved : goal.loop-at-preserved
loop-at-preserved c = record {
  count = c.add_targets.ensures.count ∙ c.loop-at.invariant.count;
  found = set_off_next c.args.net.now c.loop-at.at c.loop-at.walk.found c.add_targets.new.walk.found c.in_ok-add_targets.ensures.found c.loop-at.invariant.found;
}

pub returns-clause-found : goal.returns-clause-found
returns-clause-found c =
    let n = c.args.net.now in
    let all : c.loop-at.at ≡ length n.specs = omega (arith, c.len-at-end.ensures, c.loop-at-test.false, c.loop-at.auto.at-end) in
    subst (λ (k : ℕ). (b : ℕ) → Contains c.loop-at.walk.found b ↔ SetOffUpto n k b) all c.loop-at.invariant.found

pub returns-clause-count : goal.returns-clause-count
returns-clause-count c = c.loop-at.invariant.count

pub returns-in_err-add_targets-clause-count : goal.returns-in_err-add_targets-clause-count
returns-in_err-add_targets-clause-count c = c.add_targets.ensures.count ∙ c.loop-at.invariant.count
