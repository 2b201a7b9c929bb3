use Rattle.std.proofs.Common.{false, arith}
use Rattle.std.proofs.lemmas.List.{length-set}
use Rattle.std.specs.Vec.{with_item}
use Rattle.sci_ranges_marks.proofs.Marked.{few_set}
use Rattle.sci_ranges_marks.proofs.marks.RowMarks.revive.Goals as goal

pub invariant_of-self : goal.invariant_of-self
invariant_of-self c =
    let v = c.index_mut.result.now in
    record {
      few = few_set c.args.self.now.dead.items c.args.block v (with_item v c.args.port false) (omega (arith, c.args.self.now.dead.ok.0)) c.index_mut.ensures.value
          (length-set v.items c.args.port false) c.args.self.now.few;
    }
