use Rattle.std.proofs.Common.{rules, ◌+◌, drop, subst, List, ℕ}
use Rattle.sci_io.specs.Taken.{UnderWay}
use Rattle.sci_io.proofs.Advance.{cut_off, next_front}
use Rattle.sci_print.specs.Numbers.{all_spaced}
use Rattle.sci_print.proofs.Steps.{numbers-drop}
use Rattle.sci_print.proofs.numbers.put_numbers.Goals as goal

pub returns-in_err-put_number : goal.returns-in_err-put_number
returns-in_err-put_number g c =
    let i = c.loop-number.number-index in
    let numbers = c.args.numbers.now in
    let due = subst (λ (l : List ℕ). UnderWay (g.S.Sink.state c.args.out.now) (g.S.Sink.state c.loop-number.out) (all_spaced numbers) l) (numbers-drop numbers i 0 c.loop-number-test.true) c.loop-number.invariant in
    cut_off _ (all_spaced (drop (i + 1) numbers)) c.put_number.result c.from_residual.result _ _ c.in_err-put_number.was (search rules) due c.put_number.ensures

pub loop-number-preserved : goal.loop-number-preserved
loop-number-preserved g c =
    let i = c.loop-number.number-index in
    let numbers = c.args.numbers.now in
    let due = subst (λ (l : List ℕ). UnderWay (g.S.Sink.state c.args.out.now) (g.S.Sink.state c.loop-number.out) (all_spaced numbers) l) (numbers-drop numbers i 0 c.loop-number-test.true) c.loop-number.invariant in
    next_front _ (all_spaced (drop (i + 1) numbers)) c.put_number.result _ c.in_ok-put_number.was due c.put_number.ensures
