use Rattle.std.proofs.Common.{rules, ◌+◌, ◌<◌, length, drop, subst, List, ℕ, get_or, arith}
use Rattle.std.specs.Prelude.{pos}
use mir.Val.{SFits}
use mir.Syntax.{w64}
use Rattle.std.proofs.lemmas.Int.{to_z-of_z}
use Rattle.sci_io.specs.Taken.{UnderWay}
use Rattle.sci_io.proofs.Advance.{cut_off, next_front}
use Rattle.sci_text.specs.Lines.{joined}
use Rattle.sci_vcd.specs.Spelling.{value_lines}
use Rattle.sci_vcd.proofs.Putting.{values_drop}
use Rattle.sci_vcd.proofs.put.put_values.Goals as goal

pub returns-in_err-put_value : goal.returns-in_err-put_value
returns-in_err-put_value g c =
    let i = c.loop-at.at in
    let gs = c.args.signals.now in
    let vs = c.args.values.now in
    let within : i < length vs = omega (arith, c.loop-at-test.true) in
    let fits : SFits w64 (get_or vs i (pos 0)) = search rules in
    let due = subst (λ (l : List ℕ). UnderWay (g.S.Sink.state c.args.out.now) (g.S.Sink.state c.loop-at.out) (joined (value_lines gs 1 vs)) l) (values_drop gs vs i (pos 0) within) c.loop-at.invariant in
    cut_off _ (joined (value_lines gs (i + 1 + 1) (drop (i + 1) vs))) c.put_value.result c.from_residual.result _ _ c.in_err-put_value.was (search rules) due (rw (to_z-of_z w64 (get_or vs i (pos 0)) fits) at c.put_value.ensures)

pub loop-at-preserved : goal.loop-at-preserved
loop-at-preserved g c =
    let i = c.loop-at.at in
    let gs = c.args.signals.now in
    let vs = c.args.values.now in
    let within : i < length vs = omega (arith, c.loop-at-test.true) in
    let fits : SFits w64 (get_or vs i (pos 0)) = search rules in
    let due = subst (λ (l : List ℕ). UnderWay (g.S.Sink.state c.args.out.now) (g.S.Sink.state c.loop-at.out) (joined (value_lines gs 1 vs)) l) (values_drop gs vs i (pos 0) within) c.loop-at.invariant in
    next_front _ (joined (value_lines gs (i + 1 + 1) (drop (i + 1) vs))) c.put_value.result _ c.in_ok-put_value.was due (rw (to_z-of_z w64 (get_or vs i (pos 0)) fits) at c.put_value.ensures)
