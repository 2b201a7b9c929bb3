use Rattle.std.proofs.Common.{◌≡◌, ◌<◌, ◌∙◌, sym, ap, subst, arith, true≢false}
use Rattle.std.specs.Prelude.{All}
use Rattle.std.proofs.lemmas.Result.{on_ok_weaker}
use Rattle.sci_forms.specs.declared.spec.Spec.{Spec}
use Rattle.sci_forms.specs.Form.{is_sync}
use Rattle.sci_loop.specs.Lists.{plain, list_at}
use Rattle.sci_loop.proofs.Adding.{list_at-plain}
use Rattle.sci_inherit.proofs.Living.{targets_inside, adds_fed, adds_no_fed}
use Rattle.sci_inherit.proofs.live.add_targets.Goals as goal

pub returns-then-is_sync-clause-found : goal.returns-then-is_sync-clause-found
returns-then-is_sync-clause-found c =
    adds_no_fed c.args.net.now c.args.block c.args.walk.now.found (sym (ap (λ (s : Spec). is_sync s.kind) c.spec.ensures.value) ∙ (sym c.is_sync.ensures ∙ c.if-is_sync.true))

pub add_all-requires : goal.add_all-requires
add_all-requires c =
    let n = c.args.net.now in
    let b = c.args.block in
    let vs = c.args.links.now.targets.items in
    let is : c.deref.result.now ≡ list_at (plain vs) b =
    c.deref.ensures.value ∙ sym (list_at-plain vs b c.index.result.now (let l = c.requires.links.targets_long in omega (arith, l, c.requires.most)) c.index.ensures) in
    subst (All (λ x. x < c.args.walk.now.count)) (sym is) (targets_inside n (plain vs) c.args.walk.now.count c.requires.links.targets c.requires.walk b)

pub returns-else-is_sync-clause-found : goal.returns-else-is_sync-clause-found
returns-else-is_sync-clause-found c =
    let n = c.args.net.now in
    let b = c.args.block in
    let vs = c.args.links.now.targets.items in
    let is : c.deref.result.now ≡ list_at (plain vs) b =
    c.deref.ensures.value ∙ sym (list_at-plain vs b c.index.result.now (let l = c.requires.links.targets_long in omega (arith, l, c.requires.most)) c.index.ensures) in
    on_ok_weaker c.add_all.result
    (λ a. adds_fed n b (plain vs) c.deref.result.now c.args.walk.now.found c.add_all.new.self.found c.requires.links.targets is
    (λ t. true≢false (sym t ∙ (sym (ap (λ (s : Spec). is_sync s.kind) c.spec.ensures.value) ∙ (sym c.is_sync.ensures ∙ c.if-is_sync.false)))) a.exactly)
    c.add_all.ensures.ok
