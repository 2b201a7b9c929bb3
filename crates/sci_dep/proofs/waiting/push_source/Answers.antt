use Rattle.std.proofs.Common.{◌≡◌, ◌∙◌, ◌-◌, sym, ap, true, true≢false}
use Rattle.sci_base.specs.Lists.{truth_at}
use Rattle.sci_forms.specs.declared.spec.Spec.{Spec}
use Rattle.sci_net.specs.declared.Wire.{Wire}
use Rattle.sci_net.specs.Parts.{spec_of}
use Rattle.sci_reaction.specs.Links.{has_feedthrough}
use Rattle.sci_dep.proofs.Waited.{truth_of, puts_source, puts_no_source}
use Rattle.sci_dep.proofs.waiting.push_source.Goals as goal

pub returns-in_ok-push : goal.returns-in_ok-push
returns-in_ok-push c =
    let n = c.args.net.now in
    let b = c.args.block in
    let k = c.args.input in
    let on : has_feedthrough (spec_of n b) k ≡ true =
    sym (truth_of (spec_of n b).feed k c.requires.input_least) ∙ (sym (ap (λ (s : Spec). truth_at s.feed (k - 1)) c.spec.ensures.value) ∙ (sym c.at.ensures ∙ c.if-at.true)) in
    puts_source n b k c.args.blocks.now.items c.push.new.self.items c.wire-wire.result.block on (sym (ap (λ (x : Wire). x.block) c.wire-wire.ensures)) c.in_ok-push.ensures.items

pub returns-else-at : goal.returns-else-at
returns-else-at c =
    let n = c.args.net.now in
    let b = c.args.block in
    let k = c.args.input in
    puts_no_source n b k c.args.blocks.now.items
    (λ on. true≢false (sym (c.at.ensures ∙ (ap (λ (s : Spec). truth_at s.feed (k - 1)) c.spec.ensures.value ∙ (truth_of (spec_of n b).feed k c.requires.input_least ∙ on))) ∙ c.if-at.false))
