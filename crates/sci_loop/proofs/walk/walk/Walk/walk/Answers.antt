use Rattle.std.proofs.Common.{◌∙◌, ℕ, ◌<◌, List, length, get_or, sym, ap, subst, arith}
use Rattle.std.specs.Prelude.{All}
use Rattle.sci_loop.specs.Lists.{plain}
use Rattle.sci_loop.specs.Walk.{AddsNumbers}
use Rattle.sci_loop.proofs.Adding.{list_at-plain}
use Rattle.sci_loop.proofs.Walking.{walking_begins, walking_more, walking_ends}
use Rattle.sci_loop.proofs.walk.walk.Walk.walk.Goals as goal

pub loop-at-init : goal.loop-at-init
loop-at-init c = walking_begins (plain c.args.successors.now) c.args.starts.now c.args.self.now.count c.forget.new.self c.add_all.new.self c.forget.ensures c.in_ok-add_all.ensures.ok

pub add_all-requires-in-loop-at : goal.add_all-requires-in-loop-at
add_all-requires-in-loop-at c =
    let p = get_or c.found-in-loop-at.result.now c.loop-at.at 0 in
    let here : c.loop-at.at < length c.loop-at.self.found = rw (← c.found.ensures.value) c.loop-at-test.true in
    let inside : p < length c.args.successors.now = rw (c.found-in-loop-at.ensures.value) (let low = c.found-in-loop-at.ensures.within c.loop-at.at 0 here in omega (arith, low, c.requires.long, c.loop-at.invariant.count)) in
    let is = c.deref.ensures.value ∙ sym (list_at-plain c.args.successors.now p c.index-successors-number.result inside c.index-successors-number.is) in
    let Within : List ℕ → Type 0 = All (λ q. q < c.loop-at.self.count) in
    subst Within (sym is) (λ k d h. let low = c.requires.within p k d h in omega (arith, low, c.loop-at.invariant.count))

pub loop-at-preserved : goal.loop-at-preserved
loop-at-preserved c =
    let p = get_or c.found-in-loop-at.result.now c.loop-at.at 0 in
    let here : c.loop-at.at < length c.loop-at.self.found = rw (← c.found.ensures.value) c.loop-at-test.true in
    let inside : p < length c.args.successors.now = rw (c.found-in-loop-at.ensures.value) (let low = c.found-in-loop-at.ensures.within c.loop-at.at 0 here in omega (arith, low, c.requires.long, c.loop-at.invariant.count)) in
    let is = c.deref.ensures.value ∙ sym (list_at-plain c.args.successors.now p c.index-successors-number.result inside c.index-successors-number.is) in
    let P : List ℕ → Type 0 = λ l. AddsNumbers l c.loop-at.self c.add_all-in-loop-at.new.self in
    walking_more (plain c.args.successors.now) c.args.starts.now c.args.self.now.count c.loop-at.at p c.loop-at.self c.add_all-in-loop-at.new.self here (ap (λ l. get_or l c.loop-at.at 0) c.found-in-loop-at.ensures.value) c.loop-at.invariant (subst P is c.in_ok-add_all-2.ensures.ok)

pub returns-clause-found : goal.returns-clause-found
returns-clause-found c =
    walking_ends (plain c.args.successors.now) c.args.starts.now c.args.self.now.count c.loop-at.at c.loop-at.self (rw (← c.found.ensures.value) c.loop-at-test.false) c.loop-at.invariant
