use Rattle.std.proofs.Common.{List, ℕ, [], ◌∷◌, ◌++◌, ◌∙◌, ap, sym, arith}
use Rattle.sci_store.proofs.LineStarts.{put_more, put_all, elements_next, elements_none}
use Rattle.sci_store.proofs.heads.push_elements.Goals as goal

pub loop-element-preserved : goal.loop-element-preserved
loop-element-preserved c =
    let next = elements_next c.args.block c.args.port c.args.count c.loop-element.element (omega (arith, c.loop-element-test.true)) in
    put_more c.args.heads.now.items c.loop-element.heads.items c.push.new.self.items _ _ _
    (c.in_ok-push.ensures.items ∙ ap (λ (h : List ℕ). c.loop-element.heads.items ++ h ∷ []) c.new.ensures)
    (ap (λ (l : List (List ℕ)). c.loop-element.heads.items ++ l) (sym next) ∙ c.loop-element.invariant)

pub returns : goal.returns
returns c =
    put_all c.args.heads.now.items c.loop-element.heads.items _ _
    (elements_none c.args.block c.args.port c.args.count c.loop-element.element (omega (arith, c.loop-element-test.false))) c.loop-element.invariant
