use Rattle.std.proofs.Common.{◌≡◌, ◌∙◌, ℕ, List, sym, subst, arith}
use Rattle.std.specs.Prelude.{Contains}
use Rattle.std.proofs.lemmas.Result.{on_ok_weaker}
use Rattle.sci_loop.specs.Lists.{plain, list_at}
use Rattle.sci_loop.proofs.Adding.{list_at-plain}
use Rattle.sci_inherit.specs.Followers.{IsTarget}
use Rattle.sci_inherit.proofs.Giving.{adds-given}
use Rattle.sci_inherit.proofs.Linked.{target_stays}
use Rattle.sci_inherit.proofs.followers.push_target.Goals as goal

pub returns-then-ends_with-clause-targets : goal.returns-then-ends_with-clause-targets
returns-then-ends_with-clause-targets c =
    let a = c.args.sender in
    let b = c.args.block in
    let vs = c.args.targets.now.items in
    let is : c.deref.result.now ≡ list_at (plain vs) a = c.deref.ensures.value ∙ sym (list_at-plain vs a c.index.result.now (let h = c.requires in omega (arith, h, c.args.targets.now.ok.0)) c.index.ensures) in
    target_stays a b (plain vs) (subst (λ (l : List ℕ). Contains l b) is (c.ends_with.ensures c.if-ends_with.true))

pub returns-else-ends_with-clause-targets : goal.returns-else-ends_with-clause-targets
returns-else-ends_with-clause-targets c =
    let a = c.args.sender in
    let b = c.args.block in
    on_ok_weaker c.push_at.result
    (λ e. adds-given (IsTarget a b) c.args.targets.now c.push_at.new.lists a b c.requires e (λ p x s t. record { from = s; is = t }) (λ p x g. (g.from, g.is)))
    c.push_at.ensures.lists
