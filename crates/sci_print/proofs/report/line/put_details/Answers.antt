use Rattle.std.proofs.Common.{rules, [], ◌+◌, drop, subst, List, ℕ, pos, get_or, ap, w64, to_z, of_z, ◌≡◌, arith}
use Rattle.std.proofs.lemmas.Int.{to_z-of_z}
use Rattle.sci_io.specs.Taken.{UnderWay}
use Rattle.sci_io.proofs.Advance.{cut_off, next_front, same_text}
use Rattle.sci_print.specs.Line.{detail_text, details_text}
use Rattle.sci_print.proofs.Steps.{details-drop}
use Rattle.sci_print.proofs.report.line.put_details.Goals as goal

pub returns-in_err-put_detail : goal.returns-in_err-put_detail
returns-in_err-put_detail g c =
    let i = c.loop-n.n-index in
    let ps = c.args.ns.now in
    let same : to_z w64 (of_z w64 (get_or ps i (pos 0))) ≡ get_or ps i (pos 0) = grind (arith, to_z-of_z) in
    let due = subst (λ (l : List ℕ). UnderWay (g.S.Sink.state c.args.err.now) (g.S.Sink.state c.loop-n.err) (details_text ps) l) (details-drop ps i (pos 0) c.loop-n-test.true) c.loop-n.invariant in
    cut_off (detail_text (get_or ps i (pos 0))) (details_text (drop (i + 1) ps)) c.put_detail.result c.from_residual.result _ _ c.in_err-put_detail.was (search rules) due (same_text (ap detail_text same) c.put_detail.ensures)

pub loop-n-preserved : goal.loop-n-preserved
loop-n-preserved g c =
    let i = c.loop-n.n-index in
    let ps = c.args.ns.now in
    let same : to_z w64 (of_z w64 (get_or ps i (pos 0))) ≡ get_or ps i (pos 0) = grind (arith, to_z-of_z) in
    let due = subst (λ (l : List ℕ). UnderWay (g.S.Sink.state c.args.err.now) (g.S.Sink.state c.loop-n.err) (details_text ps) l) (details-drop ps i (pos 0) c.loop-n-test.true) c.loop-n.invariant in
    next_front (detail_text (get_or ps i (pos 0))) (details_text (drop (i + 1) ps)) c.put_detail.result _ c.in_ok-put_detail.was due (same_text (ap detail_text same) c.put_detail.ensures)
