use Rattle.std.proofs.Common.{◌≡◌, ◌∙◌, ℕ, ◌+◌, ◌-◌, List, sym, ap, subst, arith}
use Rattle.sci_forms.specs.declared.spec.Spec.{Spec}
use Rattle.sci_net.specs.declared.Feed.{Feed}
use Rattle.sci_net.specs.Parts.{spec_of}
use Rattle.sci_loop.specs.Lists.{plain, Adds}
use Rattle.sci_inherit.specs.Followers.{Upto, SenderGets, InputTargets}
use Rattle.sci_inherit.proofs.Giving.{upto-none, upto-next}
use Rattle.sci_inherit.proofs.Linked.{senders_inside}
use Rattle.sci_inherit.proofs.followers.push_inputs.Goals as goal

pub loop-at-init : goal.loop-at-init
loop-at-init c = record { len = c.requires.long; adds = upto-none (InputTargets c.args.net.now c.args.block) (plain c.args.targets.now.items) }

pub push_to_senders-requires : goal.push_to_senders-requires
push_to_senders-requires c =
    let n = c.args.net.now in
    let b = c.args.block in
    let e : c.spec.result.now.evtin ≡ (spec_of n b).evtin = ap (λ (s : Spec). s.evtin) c.spec.ensures.value in
    senders_inside n b c.loop-at.at _ c.feeds.result.now c.well_formed-2.ensures c.requires.least c.requires.most (omega (arith, e, c.loop-at-test.true)) c.feeds.ensures c.loop-at.invariant.len

pub loop-at-preserved : goal.loop-at-preserved
loop-at-preserved c =
    let n = c.args.net.now in
    let b = c.args.block in
    let at = c.loop-at.at in
    let mid = plain c.loop-at.targets.items in
    let new = plain c.push_to_senders.new.targets.items in
    let P : List Feed → Type 0 = λ fs. Adds (SenderGets fs b) mid new in
    record {
      len = c.in_ok-push_to_senders.ensures.len ∙ c.loop-at.invariant.len;
      adds = upto-next (InputTargets n b) at (plain c.args.targets.now.items) mid new c.loop-at.invariant.adds (subst P c.feeds.ensures c.in_ok-push_to_senders.ensures.targets);
    }

pub returns-clause-targets : goal.returns-clause-targets
returns-clause-targets c =
    let n = c.args.net.now in
    let b = c.args.block in
    let old = plain c.args.targets.now.items in
    let new = plain c.loop-at.targets.items in
    let e : c.spec.result.now.evtin ≡ (spec_of n b).evtin = ap (λ (s : Spec). s.evtin) c.spec.ensures.value in
    let all : c.loop-at.at ≡ (spec_of n b).evtin = omega (arith, e, c.loop-at-test.false, c.loop-at.auto.at-end) in
    let number : (b - 1) + 1 ≡ b = let low = c.requires.least in omega (arith, low) in
    subst (λ (k : ℕ). Adds (Upto (InputTargets n k) (spec_of n k).evtin) old new) (sym number) (subst (λ (k : ℕ). Adds (Upto (InputTargets n b) k) old new) all c.loop-at.invariant.adds)

pub returns-clause-len : goal.returns-clause-len
returns-clause-len c = c.loop-at.invariant.len ∙ sym c.requires.long
