use Rattle.std.proofs.Common.{◌∙◌, ◌++◌, ◌∷◌, [], ℕ, List, refl, sym, ap, arith, get_or, length-set, map, take}
use Rattle.std.proofs.lemmas.List.{map-append, take_all, take_more, take_more_set}
use Rattle.sci_inherit.specs.declared.Fed.{Fed}
use Rattle.sci_inherit.proofs.always.blocks_of.Goals as goal

pub loop-at-init : goal.loop-at-init
loop-at-init c = record { len = omega (arith, c.in_ok-blocks.ensures.len, c.in_ok-blocks.blocks.ok.0); done = refl }

pub loop-at-preserved : goal.loop-at-preserved
loop-at-preserved c =
    let fs = c.args.fed.now in
    let bs = c.loop-at.blocks.items in
    let at = c.loop-at.at in
    let inv = c.loop-at.invariant in
    let d : Fed = record { block = 0; input = 0 } in
    let block : Fed → ℕ = λ f. f.block in
    record {
      len = length-set bs at (get_or fs at d).block ∙ inv.len;
      done =
          take_more_set bs at (get_or fs at d).block (omega (arith, c.loop-at-test.true, inv.len))
          ∙ (ap (λ (l : List ℕ). l ++ (get_or fs at d).block ∷ []) inv.done
          ∙ (sym (map-append block (take at fs) (get_or fs at d ∷ [])) ∙ ap (map block) (sym (take_more fs at d c.loop-at-test.true))));
    }

pub returns : goal.returns
returns c =
    let fs = c.args.fed.now in
    let bs = c.loop-at.blocks.items in
    let at = c.loop-at.at in
    sym (take_all at bs (omega (arith, c.loop-at-test.false, c.loop-at.invariant.len)))
    ∙ (c.loop-at.invariant.done ∙ ap (λ (l : List Fed). map (λ f. f.block) l) (take_all at fs (omega (arith, c.loop-at-test.false))))
