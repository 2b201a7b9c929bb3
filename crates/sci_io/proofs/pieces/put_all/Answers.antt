use Rattle.std.proofs.Common.{rules, [], ◌+◌, drop, subst, Bor, List, ℕ}
use Rattle.sci_io.specs.Taken.{joined, UnderWay}
use Rattle.sci_io.proofs.Advance.{cut_off, next_front, joined-drop}
use Rattle.sci_io.proofs.pieces.put_all.Goals as goal

pub returns-in_err-put_any : goal.returns-in_err-put_any
returns-in_err-put_any g c =
    let i = c.loop-piece.piece-index in
    let ps = c.args.pieces.now in
    let d : Bor (List ℕ) = record { ref_ptr = (0, 0); now = [] } in
    let due = subst (λ (l : List ℕ). UnderWay (g.S.Sink.state c.args.out.now) (g.S.Sink.state c.loop-piece.out) (joined ps) l) (joined-drop ps i d c.loop-piece-test.true) c.loop-piece.invariant in
    cut_off _ (joined (drop (i + 1) ps)) c.put_any.result c.from_residual.result _ _ c.in_err-put_any.was (search rules) due c.put_any.ensures

pub loop-piece-preserved : goal.loop-piece-preserved
loop-piece-preserved g c =
    let i = c.loop-piece.piece-index in
    let ps = c.args.pieces.now in
    let d : Bor (List ℕ) = record { ref_ptr = (0, 0); now = [] } in
    let due = subst (λ (l : List ℕ). UnderWay (g.S.Sink.state c.args.out.now) (g.S.Sink.state c.loop-piece.out) (joined ps) l) (joined-drop ps i d c.loop-piece-test.true) c.loop-piece.invariant in
    next_front _ (joined (drop (i + 1) ps)) c.put_any.result _ c.in_ok-put_any.was due c.put_any.ensures
