use Rattle.std.proofs.Common.{rules, ◌+◌, ◌++◌, drop, subst, List, ℕ, ℤ, pos, get_or}
use Rattle.std.specs.Prelude.{codes}
use mir.Val.{SFits}
use mir.Syntax.{w64}
use Rattle.std.proofs.lemmas.Int.{to_z-of_z}
use Rattle.std.specs.Fmt.{signed_decimal}
use Rattle.std.proofs.lemmas.List.{at_drop_all}
use Rattle.sci_io.specs.Taken.{UnderWay}
use Rattle.sci_io.proofs.Advance.{cut_off, next_front, same_text}
use Rattle.sci_trace.specs.Lines.{numbers}
use Rattle.sci_save.proofs.Writing.{numbers-drop, last_piece}
use Rattle.sci_save.proofs.write.put_numbers.Goals as goal

pub returns-in_err-put_number : goal.returns-in_err-put_number
returns-in_err-put_number g c =
    let i = c.loop-number.number-index in
    let zs = c.args.values.now in
    let d : ℤ = pos 0 in
    let fits : SFits w64 (get_or zs i d) = search rules in
    let due = subst (λ (l : List ℕ). UnderWay (g.S.Sink.state c.args.out.now) (g.S.Sink.state c.loop-number.out) (numbers zs) l) (numbers-drop zs i d c.loop-number-test.true) c.loop-number.invariant in
    cut_off (codes " " ++ signed_decimal (get_or zs i d)) (numbers (drop (i + 1) zs)) c.put_number.result c.from_residual.result _ _ c.in_err-put_number.was (search rules) due (rw (to_z-of_z w64 (get_or zs i d) fits) at c.put_number.ensures)

pub loop-number-preserved : goal.loop-number-preserved
loop-number-preserved g c =
    let i = c.loop-number.number-index in
    let zs = c.args.values.now in
    let d : ℤ = pos 0 in
    let fits : SFits w64 (get_or zs i d) = search rules in
    let due = subst (λ (l : List ℕ). UnderWay (g.S.Sink.state c.args.out.now) (g.S.Sink.state c.loop-number.out) (numbers zs) l) (numbers-drop zs i d c.loop-number-test.true) c.loop-number.invariant in
    next_front (codes " " ++ signed_decimal (get_or zs i d)) (numbers (drop (i + 1) zs)) c.put_number.result _ c.in_ok-put_number.was due (rw (to_z-of_z w64 (get_or zs i d) fits) at c.put_number.ensures)

pub returns : goal.returns
returns g c =
    let i = c.loop-number.number-index in
    let zs = c.args.values.now in
    let due = subst (λ (l : List ℕ). UnderWay (g.S.Sink.state c.args.out.now) (g.S.Sink.state c.loop-number.out) (numbers zs) l) (at_drop_all numbers zs i c.loop-number-test.false) c.loop-number.invariant in
    last_piece (codes "\n") c.put.result due (same_text c.as_bytes.ensures.value c.put.ensures.written)
