use Rattle.std.proofs.Common.{rules, ◌≡◌, ◌+◌, ◌++◌, drop, subst, ap, List, ℕ, ℤ, pos, get_or, codes, w64, to_z, of_z, arith}
use Rattle.std.proofs.lemmas.Int.{to_z-of_z}
use Rattle.std.specs.Fmt.{signed_decimal}
use Rattle.sci_io.specs.Taken.{UnderWay}
use Rattle.sci_io.proofs.Advance.{cut_off, next_front, same_text}
use Rattle.sci_trace.specs.Lines.{numbers}
use Rattle.sci_ranges_tell.proofs.Pieces.{numbers-drop, numbers-end, last_piece}
use Rattle.sci_ranges_tell.proofs.lines.put_numbers.Goals as goal

pub returns-in_err-put_number : goal.returns-in_err-put_number
returns-in_err-put_number g c =
    let i = c.loop-value.value-index in
    let ns = c.args.values.now in
    let same : to_z w64 (of_z w64 (get_or ns i (pos 0))) ≡ get_or ns i (pos 0) = grind (arith, to_z-of_z) in
    let due = subst (λ (l : List ℕ). UnderWay (g.S.Sink.state c.args.out.now) (g.S.Sink.state c.loop-value.out) (numbers ns) l) (numbers-drop ns i (pos 0) c.loop-value-test.true) c.loop-value.invariant in
    cut_off (codes " " ++ signed_decimal (get_or ns i (pos 0))) (numbers (drop (i + 1) ns)) c.put_number.result c.from_residual.result _ _ c.in_err-put_number.was (search rules) due
    (same_text (ap (λ (v : ℤ). codes " " ++ signed_decimal v) same) c.put_number.ensures)

pub loop-value-preserved : goal.loop-value-preserved
loop-value-preserved g c =
    let i = c.loop-value.value-index in
    let ns = c.args.values.now in
    let same : to_z w64 (of_z w64 (get_or ns i (pos 0))) ≡ get_or ns i (pos 0) = grind (arith, to_z-of_z) in
    let due = subst (λ (l : List ℕ). UnderWay (g.S.Sink.state c.args.out.now) (g.S.Sink.state c.loop-value.out) (numbers ns) l) (numbers-drop ns i (pos 0) c.loop-value-test.true) c.loop-value.invariant in
    next_front (codes " " ++ signed_decimal (get_or ns i (pos 0))) (numbers (drop (i + 1) ns)) c.put_number.result _ c.in_ok-put_number.was due
    (same_text (ap (λ (v : ℤ). codes " " ++ signed_decimal v) same) c.put_number.ensures)

pub returns : goal.returns
returns g c =
    let i = c.loop-value.value-index in
    let ns = c.args.values.now in
    let due = subst (λ (l : List ℕ). UnderWay (g.S.Sink.state c.args.out.now) (g.S.Sink.state c.loop-value.out) (numbers ns) l) (numbers-end ns i (omega arith)) c.loop-value.invariant in
    last_piece (codes "\n") c.put.result due (same_text c.as_bytes.ensures.value c.put.ensures.written)
