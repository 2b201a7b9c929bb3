use Rattle.std.proofs.Common.{rules, ◌+◌, ◌-◌, subst, List, ℕ, length, arith}
use Rattle.sci_io.specs.Taken.{UnderWay}
use Rattle.sci_io.proofs.Advance.{cut_off, next_front}
use Rattle.sci_net.specs.Parts.{spec_of, path_of}
use Rattle.sci_print.specs.Map.{block_line, lines_from, map_text}
use Rattle.sci_print.proofs.Pieces.{next_line}
use Rattle.sci_print.proofs.net_map.map.write_map.Goals as goal

pub returns-in_err-put_line_of : goal.returns-in_err-put_line_of
returns-in_err-put_line_of g c =
    let i = c.loop-at.at in
    let n = c.args.net.now in
    let due = subst (λ (l : List ℕ). UnderWay (g.S.Sink.state c.args.out.now) (g.S.Sink.state c.loop-at.out) (map_text n) l) (next_line n i (length n.specs) (omega arith)) c.loop-at.invariant in
    cut_off (block_line (i + 1) (path_of n (i + 1)) (spec_of n (i + 1))) (lines_from n (i + 1 + 1) (length n.specs - (i + 1))) c.put_line_of.result c.from_residual.result _ _ c.in_err-put_line_of.was (search rules) due c.put_line_of.ensures

pub loop-at-preserved : goal.loop-at-preserved
loop-at-preserved g c =
    let i = c.loop-at.at in
    let n = c.args.net.now in
    let due = subst (λ (l : List ℕ). UnderWay (g.S.Sink.state c.args.out.now) (g.S.Sink.state c.loop-at.out) (map_text n) l) (next_line n i (length n.specs) (omega arith)) c.loop-at.invariant in
    next_front (block_line (i + 1) (path_of n (i + 1)) (spec_of n (i + 1))) (lines_from n (i + 1 + 1) (length n.specs - (i + 1))) c.put_line_of.result _ c.in_ok-put_line_of.was due c.put_line_of.ensures
