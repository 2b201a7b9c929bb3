use Rattle.std.proofs.Common.{arith, ◌<◌, length}
use Rattle.sci_cgen_run.proofs.DeclaredLemmas.{scratch_more}
use Rattle.sci_cgen_run.proofs.declared_names.scratch_count.Goals as goal

pub loop-at-preserved : goal.loop-at-preserved
loop-at-preserved c =
    let here : c.loop-at.at < length c.args.net.now.specs = omega (arith, c.loop-at-test.true, c.len-at-end.ensures) in
    record {
      so_far = λ rows are. scratch_more c.args.net.now rows c.args.marks.now c.loop-at.at c.loop-at.count c.scratch_at.result c.max-count.result are here
          (c.loop-at.invariant.so_far rows are) c.scratch_at.ensures c.max-count.ensures;
      within = omega (arith, here);
    }
