use Rattle.std.proofs.Common.{◌≡◌, ◌∙◌, sym, ap}
use Rattle.std.proofs.lemmas.Result.{on_ok_weaker}
use Rattle.sci_forms.specs.declared.spec.Spec.{Spec}
use Rattle.sci_net.specs.Parts.{spec_of}
use Rattle.sci_loop.specs.Lists.{plain}
use Rattle.sci_inherit.proofs.Linked.{heir_given, heir_none}
use Rattle.sci_inherit.proofs.followers.push_heir.Goals as goal

pub returns-then-spec-eq0-clause-heirs : goal.returns-then-spec-eq0-clause-heirs
returns-then-spec-eq0-clause-heirs c =
    let none : (spec_of c.args.net.now c.args.block).evtin ≡ 0 = sym (ap (λ (s : Spec). s.evtin) c.spec.ensures.value) ∙ c.if-spec-eq0.true in
    on_ok_weaker c.push_to_sources.result
    (heir_given c.args.net.now c.args.block (plain c.args.heirs.now.items) (plain c.push_to_sources.new.heirs.items) c.requires.least c.requires.most none)
    c.push_to_sources.ensures.heirs

pub returns-else-spec-eq0-clause-heirs : goal.returns-else-spec-eq0-clause-heirs
returns-else-spec-eq0-clause-heirs c =
    heir_none c.args.net.now c.args.block (plain c.args.heirs.now.items) c.requires.least
    (λ e. c.if-spec-eq0.false (ap (λ (s : Spec). s.evtin) c.spec.ensures.value ∙ e))
