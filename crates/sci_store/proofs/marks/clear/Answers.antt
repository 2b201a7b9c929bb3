use Rattle.std.proofs.Common.{◌≡◌, ◌≤◌, ◌∙◌, arith, get_or, length, below_more, subst, sym}
use Rattle.std.proofs.lemmas.List.{get_or_default}
use Rattle.sci_store.specs.Marks.{idle, mark_at}
use Rattle.sci_store.proofs.Evaluating.{mark_here, mark_other, stays_idle}
use Rattle.sci_store.proofs.marks.clear.Goals as goal

pub loop-block-preserved : goal.loop-block-preserved
loop-block-preserved c =
    let marks = c.loop-block.marks in
    let b = get_or c.args.blocks.now c.loop-block.block-index 0 in
    let known = c.requires c.loop-block.block-index 0 c.loop-block-test.true in
    let within : b ≤ length marks = omega (arith, known.1, c.loop-block.auto.marks) in
    record {
      cleared = below_more _ _ (λ k l. stays_idle marks b (get_or c.args.blocks.now k 0) known.0 within (c.loop-block.invariant.cleared k l))
          (mark_here marks b idle known.0 within);
      others = λ d out. mark_other marks b d idle known.0 (out c.loop-block.block-index (omega arith) c.loop-block-test.true)
          ∙ c.loop-block.invariant.others d (λ k l. out k (omega (arith, l)));
    }

pub returns-clause-cleared : goal.returns-clause-cleared
returns-clause-cleared c = λ b h.
    subst (λ d. mark_at c.loop-block.marks d ≡ idle) (get_or_default c.args.blocks.now h.0 0 b h.1 ∙ h.2)
    (c.loop-block.invariant.cleared h.0 (omega (arith, h.1, c.loop-block-test.false)))

pub returns-clause-others : goal.returns-clause-others
returns-clause-others c = λ b out.
    c.loop-block.invariant.others b (λ k l within same. out (k, within, get_or_default c.args.blocks.now k b 0 within ∙ sym same))
