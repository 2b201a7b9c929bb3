use Rattle.std.proofs.Common.{◌≡◌, ◌<◌, ◌+◌, ◌↔◌, ◌∙◌, ℕ, List, [], Vec, sym, ap, subst, arith, length, replicate, vec_len}
use Rattle.std.specs.Prelude.{Contains, All}
use Rattle.std.specs.declared.alloc.Global.{Global}
use Rattle.std.proofs.lemmas.List.{length-map}
use Rattle.sci_loop.specs.Lists.{plain, list_at, Adds}
use Rattle.sci_loop.proofs.Adding.{list_at-plain}
use Rattle.sci_reaction.specs.Depends.{Conditions}
use Rattle.sci_dep.specs.Building.{PutUpto}
use Rattle.sci_dep.proofs.Walked.{onward_inside}
use Rattle.sci_dep.proofs.Waited.{turned_none, turned_next, turned_all}
use Rattle.sci_dep.proofs.waiting.conditions.Goals as goal

pub loop-at-init : goal.loop-at-init
loop-at-init c =
    let n = c.args.net.now in
    let empty : plain c.in_ok-lists.lists.items ≡ replicate (length n.specs + 1) [] = c.in_ok-lists.ensures.empty ∙ ap (λ (k : ℕ). replicate (k + 1) []) c.len.ensures in
    record {
      len = c.in_ok-lists.ensures.len ∙ ap (λ (k : ℕ). k + 1) c.len.ensures;
      adds = subst (λ (ls : List (List ℕ)). Adds (PutUpto n 0) (replicate (length n.specs + 1) []) ls) (sym empty) (turned_none n (replicate (length n.specs + 1) []) c.well_formed-2.ensures);
    }

pub put-requires : goal.put-requires
put-requires c =
    let n = c.args.net.now in
    let k = c.loop-at.at in
    let Leads : List (List ℕ) → Type 0 = λ ls. (a b : ℕ) → Contains (list_at ls a) b ↔ Conditions n a b in
    let os = plain c.onward-onward.result.now in
    let are : Leads os = subst Leads (sym c.onward-onward.ensures) c.requires.onward_are in
    let map_long = length-map c.onward-onward.result.now (λ (v : Vec ℕ Global). v.items) in
    let same_long = ap length c.onward-onward.ensures in
    let inside : k + 1 < length c.onward-onward.result.now = omega (arith, map_long, same_long, c.requires.one_each.onward, c.loop-at-test.true, c.len-at-end.ensures) in
    let is : c.deref.result.now ≡ list_at os (k + 1) = c.deref.ensures.value ∙ sym (list_at-plain c.onward-onward.result.now (k + 1) c.index-onward-block.result inside c.index-onward-block.is) in
    subst (All (λ b. b < vec_len c.loop-at.lists)) (sym is) (onward_inside n os (vec_len c.loop-at.lists) are c.loop-at.invariant.len (k + 1))

pub loop-at-preserved : goal.loop-at-preserved
loop-at-preserved c =
    let n = c.args.net.now in
    let k = c.loop-at.at in
    let Leads : List (List ℕ) → Type 0 = λ ls. (a b : ℕ) → Contains (list_at ls a) b ↔ Conditions n a b in
    let os = plain c.onward-onward.result.now in
    let are : Leads os = subst Leads (sym c.onward-onward.ensures) c.requires.onward_are in
    let map_long = length-map c.onward-onward.result.now (λ (v : Vec ℕ Global). v.items) in
    let same_long = ap length c.onward-onward.ensures in
    let inside : k + 1 < length c.onward-onward.result.now = omega (arith, map_long, same_long, c.requires.one_each.onward, c.loop-at-test.true, c.len-at-end.ensures) in
    let is : c.deref.result.now ≡ list_at os (k + 1) = c.deref.ensures.value ∙ sym (list_at-plain c.onward-onward.result.now (k + 1) c.index-onward-block.result inside c.index-onward-block.is) in
    record {
      len = c.in_ok-put.ensures.len ∙ c.loop-at.invariant.len;
      adds = turned_next n os k c.deref.result.now (replicate (length n.specs + 1) []) (plain c.loop-at.lists.items) (plain c.put.new.lists.items) are is c.loop-at.invariant.adds c.in_ok-put.ensures.adds;
    }

pub returns-clause-conditions : goal.returns-clause-conditions
returns-clause-conditions c =
    let n = c.args.net.now in
    let all : c.loop-at.at ≡ length n.specs = omega (arith, c.len-at-end.ensures, c.loop-at-test.false, c.loop-at.auto.at-end) in
    turned_all n (length n.specs + 1) c.loop-at.at (plain c.loop-at.lists.items) c.well_formed-2.ensures all c.loop-at.invariant.adds
