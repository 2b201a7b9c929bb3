use Rattle.std.proofs.Common.{◌≡◌, ◌<◌, ◌≤◌, ◌+◌, ◌∙◌, ℕ, List, ap, subst, sym, arith, length, get_or}
use Rattle.std.proofs.lemmas.List.{length_push}
use Rattle.sci_places.specs.Flat.{start_in}
use Rattle.sci_places.proofs.Placed.{start_after, each_more}
use Rattle.sci_places.proofs.laying.starts.Goals as goal

pub loop-block-preserved : goal.loop-block-preserved
loop-block-preserved c =
    let n = c.args.net.now in
    let k = c.loop-block.block in
    let inside : k < length n.specs = omega (arith, c.loop-block-test.true, c.len-block-end.ensures) in
    let e = c.in_ok-push-2.ensures.items in
    let after = start_after n k inside in
    let start : c.loop-block.start + c.outs_length-start.result ≡ start_in n.specs (k + 1) = omega (
      arith,
      after,
      c.loop-block.invariant.start,
      c.outs_length-start.ensures.value,
    ) in
    record {
      start = start;
      long = ap length e ∙ (length_push c.loop-block.starts.items _ ∙ ap (λ m. m + 1) c.loop-block.invariant.long);
      each = subst (λ (xs : List ℕ). (j : ℕ) → j ≤ k + 1 → get_or xs j 0 ≡ start_in n.specs j) (sym e)
          (each_more (start_in n.specs) c.loop-block.starts.items k _ c.loop-block.invariant.long c.loop-block.invariant.each start);
    }
