use Rattle.std.proofs.Common.{arith, ◌<◌, Bool, length, if◌then◌else◌, ap, ◌∙◌}
use Rattle.sci_cgen_sources.proofs.PartLemmas.{scheduled_more, one_at_most}
use Rattle.sci_cgen_sources.proofs.parts.scheduled_count.Goals as goal

pub loop-at-preserved : goal.loop-at-preserved
loop-at-preserved c =
    let here : c.loop-at.at < length c.args.net.now.specs = omega (arith, c.loop-at-test.true, c.len-at-end.ensures) in
    let one = one_at_most _ _ c.one_where-count.ensures in
    let few = c.loop-at.invariant.few in
    record {
      so_far = λ rows are. scheduled_more c.args.net.now rows c.args.marks.now c.loop-at.at _ _ are here (c.loop-at.invariant.so_far rows are)
          (c.one_where-count.ensures ∙ ap (λ (t : Bool). if t then 1 else 0) c.is_marked.ensures);
      few = omega (arith, one, few);
      within = omega (arith, here);
    }
