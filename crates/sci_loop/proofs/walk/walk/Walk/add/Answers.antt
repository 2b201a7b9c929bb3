use Rattle.std.proofs.Common.{◌≡◌, ◌∙◌, ◌<◌, rules, subst, sym, ap, arith, refl, false, get_or, length}
use Rattle.std.specs.Prelude.{Contains}
use Rattle.std.proofs.lemmas.List.{get_or_default}
use Rattle.sci_loop.specs.Walk.{Found}
use Rattle.sci_loop.proofs.Walking.{are_marks_added, adds_first, adds_again}
use Rattle.sci_loop.proofs.walk.walk.Walk.add.Goals as goal

pub invariant_of-self-then-not-index : goal.invariant_of-self-then-not-index
invariant_of-self-then-not-index c =
    let inside : c.args.number < length c.self.inside.marks.items = omega (arith, ap (λ (f : Found). f.count) c.self.view_is) in
    let off : get_or c.self.inside.marks.items c.args.number false ≡ false = search rules in
    are_marks_added c.self.inside.marks.items _ c.self.inside.found.items c.push.new.self.items c.args.number inside off refl c.in_ok-push.ensures.items c.self.invariant

pub returns-in_ok-push-clause-ok : goal.returns-in_ok-push-clause-ok
returns-in_ok-push-clause-ok c = rw (← c.self.view_is) (adds_first c.args.number _ _ (search rules) c.in_ok-push.ensures.items)

pub returns-else-not-index-clause-ok : goal.returns-else-not-index-clause-ok
returns-else-not-index-clause-ok c =
    let inside : c.args.number < length c.self.inside.marks.items = omega (arith, ap (λ (f : Found). f.count) c.self.view_is) in
    let has : Contains c.self.inside.found.items c.args.number = (c.self.invariant.exactly c.args.number).0 (get_or_default c.self.inside.marks.items c.args.number false c.index.result.now inside ∙ (sym c.index.ensures ∙ c.if-not-index.false)) in
    adds_again c.args.number c.args.self.now (subst (λ (f : Found). Contains f.found c.args.number) c.self.view_is has)
