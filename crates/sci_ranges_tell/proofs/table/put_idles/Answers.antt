use Rattle.std.proofs.Common.{rules, ◌+◌, ◌-◌, subst, List, ℕ, length, arith}
use Rattle.sci_io.specs.Taken.{UnderWay}
use Rattle.sci_io.proofs.Advance.{cut_off, next_front}
use Rattle.sci_ranges_text.specs.Text.{idle_text, idle_line, of_each}
use Rattle.sci_ranges_pass.specs.Pass.{is_possible}
use Rattle.sci_ranges_marks.specs.View.{marks_of}
use Rattle.sci_ranges_tell.proofs.Pieces.{next_each}
use Rattle.sci_ranges_tell.proofs.table.put_idles.Goals as goal

pub returns-in_err-put_idle : goal.returns-in_err-put_idle
returns-in_err-put_idle g c =
    let i = c.loop-at.at in
    let n = c.args.net.now in
    let f : ℕ → List ℕ = (idle_line (is_possible (marks_of c.args.marks.now))) in
    let due = subst (λ (l : List ℕ). UnderWay (g.S.Sink.state c.args.out.now) (g.S.Sink.state c.loop-at.out) (idle_text n (is_possible (marks_of c.args.marks.now))) l) (next_each f i (length n.specs) (omega arith)) c.loop-at.invariant in
    cut_off (f (i + 1)) (of_each f (i + 1 + 1) (length n.specs - (i + 1))) c.put_idle.result c.from_residual.result _ _ c.in_err-put_idle.was (search rules) due c.put_idle.ensures

pub loop-at-preserved : goal.loop-at-preserved
loop-at-preserved g c =
    let i = c.loop-at.at in
    let n = c.args.net.now in
    let f : ℕ → List ℕ = (idle_line (is_possible (marks_of c.args.marks.now))) in
    let due = subst (λ (l : List ℕ). UnderWay (g.S.Sink.state c.args.out.now) (g.S.Sink.state c.loop-at.out) (idle_text n (is_possible (marks_of c.args.marks.now))) l) (next_each f i (length n.specs) (omega arith)) c.loop-at.invariant in
    next_front (f (i + 1)) (of_each f (i + 1 + 1) (length n.specs - (i + 1))) c.put_idle.result _ c.in_ok-put_idle.was due c.put_idle.ensures
