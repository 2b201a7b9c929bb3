use Rattle.std.proofs.Common.{◌≡◌, ◌∙◌, ℕ, subst, ap, arith, length, List, ◌∷◌, [], ◌++◌, Vec}
use Rattle.std.specs.declared.alloc.Global.{Global}
use Rattle.sci_forms.specs.declared.spec.Spec.{Spec}
use Rattle.sci_loop.specs.Lists.{plain}
use Rattle.sci_inherit.specs.declared.Fed.{Fed}
use Rattle.sci_inherit.specs.Followers.{plain_rows, AreEmptyRows}
use Rattle.sci_inherit.proofs.Filling.{rows_pushed, empty_first, empty_next}
use Rattle.sci_inherit.proofs.rows.empty_rows.Goals as goal

pub loop-at-init : goal.loop-at-init
loop-at-init c =
    empty_first c.args.net.now (plain_rows c.push.new.self.items)
    (rows_pushed c.new-rows.result.items c.push.new.self.items c.new.result c.in_ok-push.ensures.items
    ∙ (ap (λ (vs : List (Vec (Vec Fed Global) Global)). plain_rows vs ++ plain c.new.result.items ∷ []) c.new-rows.ensures.items
    ∙ ap (λ (vs : List (Vec Fed Global)). [] ++ plain vs ∷ []) c.new.ensures.items))

pub loop-at-preserved : goal.loop-at-preserved
loop-at-preserved c =
    let v = c.in_ok-empty_lists.field-0 in
    let old = c.loop-at.rows.items in
    let new = c.push-in-loop-at.new.self.items in
    empty_next c.args.net.now c.loop-at.at c.spec.result.now.evtout (plain_rows old) (plain_rows new) (plain v.items) (rows_pushed old new v c.in_ok-push-2.ensures.items)
    c.in_ok-empty_lists.ensures.empty (ap (λ (s : Spec). s.evtout) c.spec.ensures.value) c.loop-at.invariant

pub returns : goal.returns
returns c =
    let n = c.args.net.now in
    let all : c.loop-at.at ≡ length n.specs = omega (arith, c.len-at-end.ensures, c.loop-at-test.false, c.loop-at.auto.at-end) in
    subst (λ (k : ℕ). AreEmptyRows n k (plain_rows c.loop-at.rows.items)) all c.loop-at.invariant
