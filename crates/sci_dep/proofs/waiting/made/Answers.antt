use Rattle.std.proofs.Common.{◌≡◌, ◌∙◌, ◌+◌, ◌<◌, ◌↔◌, length, List, ℕ, [], ◌∷◌, Vec, ap, sym, subst, arith}
use Rattle.std.specs.declared.alloc.Global.{Global}
use Rattle.std.proofs.lemmas.List.{map-append}
use Rattle.std.specs.Prelude.{Contains}
use Rattle.sci_loop.specs.Lists.{plain, list_at}
use Rattle.sci_loop.proofs.Adding.{list_at-plain}
use Rattle.sci_reaction.specs.Depends.{Conditions}
use Rattle.sci_dep.specs.Building.{WaitsTo}
use Rattle.sci_dep.proofs.Waited.{waits_none, waits_next, waits_all}
use Rattle.sci_dep.proofs.waiting.made.Goals as goal

pub loop-at-init : goal.loop-at-init
loop-at-init c = subst (λ (vs : List (Vec ℕ Global)). WaitsTo c.args.net.now 0 (plain vs)) (sym c.new-lists.ensures.items) (waits_none c.args.net.now)

pub waits_of-requires-clause-conditions : goal.waits_of-requires-clause-conditions
waits_of-requires-clause-conditions c =
    let n = c.args.net.now in
    let b = c.loop-at.at + 1 in
    let vs = c.in_ok-conditions.conditions.items in
    let inside : b < length vs = omega (arith, c.in_ok-conditions.conditions.ok.0, c.in_ok-conditions.ensures.len, c.loop-at-test.true, c.len-at-end.ensures) in
    let is : c.deref.result.now ≡ list_at (plain vs) b = c.deref.ensures.value ∙ sym (list_at-plain vs b c.index.result.now inside c.index.ensures) in
    subst (λ (l : List ℕ). (x : ℕ) → Contains l x ↔ Conditions n x b) (sym is) (c.in_ok-conditions.ensures.conditions b)

pub loop-at-preserved : goal.loop-at-preserved
loop-at-preserved c =
    let v = c.in_ok-waits_of.field-0 in
    waits_next c.args.net.now c.loop-at.at (plain c.loop-at.lists.items) (plain c.push.new.self.items) v.items
    (ap plain c.in_ok-push.ensures.items ∙ map-append (λ (u : Vec ℕ Global). u.items) c.loop-at.lists.items (v ∷ [])) c.in_ok-waits_of.ensures c.loop-at.invariant

pub returns : goal.returns
returns c = waits_all c.args.net.now c.loop-at.at (plain c.loop-at.lists.items) (omega (arith, c.len-at-end.ensures, c.loop-at-test.false, c.loop-at.auto.at-end)) c.loop-at.invariant
