use Rattle.std.proofs.Common.{◌≤◌, List, ℕ, ◌++◌, length, ap, subst, sym, rules}
use Rattle.std.specs.Prelude.{codes}
use Rattle.sci_io.proofs.Advance.{same_text, begins, next_front, cut_off}
use Rattle.sci_vcd.specs.declared.signal.Signal.{Signal}
use Rattle.sci_text.specs.Lines.{joined}
use Rattle.sci_vcd.specs.Spelling.{signal_lines, value_lines}
use Rattle.sci_vcd.proofs.Putting.{opening_text, head_text, last_piece}
use Rattle.sci_vcd.proofs.put.put_head.Goals as goal

pub put_signals-requires : goal.put_signals-requires
put_signals-requires g c = subst (λ (gs : List Signal). length gs ≤ 65536) (sym c.signals.ensures) c.requires.few

pub returns-in_err-put : goal.returns-in_err-put
returns-in_err-put g c =
    same_text (sym (head_text c.args.signals.now c.args.values.now)) (cut_off _ _ c.put.result c.from_residual.result _ _ c.in_err-put.was (search rules) (begins _ _) c.put.ensures.written)

pub returns-in_err-put_signals : goal.returns-in_err-put_signals
returns-in_err-put_signals g c =
    let signals : List ℕ = joined (signal_lines 1 c.args.signals.now) in
    let values : List ℕ = joined (value_lines c.args.signals.now 1 c.args.values.now) ++ codes "$end\n" in
    same_text (sym (head_text c.args.signals.now c.args.values.now))
    (cut_off signals (opening_text ++ values) c.put_signals.result c.from_residual-in_err-put_signals.result _ _ c.in_err-put_signals.was (search rules)
    (next_front _ (signals ++ (opening_text ++ values)) c.put.result _ c.in_ok-put.was (begins _ _) c.put.ensures.written) (same_text (ap (λ (gs : List Signal). joined (signal_lines 1 gs)) c.signals.ensures) c.put_signals.ensures))

pub returns-in_err-put-2 : goal.returns-in_err-put-2
returns-in_err-put-2 g c =
    let signals : List ℕ = joined (signal_lines 1 c.args.signals.now) in
    let values : List ℕ = joined (value_lines c.args.signals.now 1 c.args.values.now) ++ codes "$end\n" in
    same_text (sym (head_text c.args.signals.now c.args.values.now))
    (cut_off opening_text values c.put-2.result c.from_residual-in_err-put-2.result _ _ c.in_err-put-2.was (search rules)
    (next_front signals (opening_text ++ values) c.put_signals.result _ c.in_ok-put_signals.was
    (next_front _ (signals ++ (opening_text ++ values)) c.put.result _ c.in_ok-put.was (begins _ _) c.put.ensures.written) (same_text (ap (λ (gs : List Signal). joined (signal_lines 1 gs)) c.signals.ensures) c.put_signals.ensures)) c.put-2.ensures.written)

pub returns-in_err-put_values : goal.returns-in_err-put_values
returns-in_err-put_values g c =
    let signals : List ℕ = joined (signal_lines 1 c.args.signals.now) in
    let first : List ℕ = joined (value_lines c.args.signals.now 1 c.args.values.now) in
    let values : List ℕ = first ++ codes "$end\n" in
    same_text (sym (head_text c.args.signals.now c.args.values.now))
    (cut_off first (codes "$end\n") c.put_values.result c.from_residual-in_err-put_values.result _ _ c.in_err-put_values.was (search rules)
    (next_front opening_text values c.put-2.result _ c.in_ok-put-2.was
    (next_front signals (opening_text ++ values) c.put_signals.result _ c.in_ok-put_signals.was
    (next_front _ (signals ++ (opening_text ++ values)) c.put.result _ c.in_ok-put.was (begins _ _) c.put.ensures.written) (same_text (ap (λ (gs : List Signal). joined (signal_lines 1 gs)) c.signals.ensures) c.put_signals.ensures)) c.put-2.ensures.written) c.put_values.ensures)

pub returns : goal.returns
returns g c =
    let signals : List ℕ = joined (signal_lines 1 c.args.signals.now) in
    let first : List ℕ = joined (value_lines c.args.signals.now 1 c.args.values.now) in
    let values : List ℕ = first ++ codes "$end\n" in
    same_text (sym (head_text c.args.signals.now c.args.values.now))
    (last_piece (codes "$end\n") c.put-3.result
    (next_front first (codes "$end\n") c.put_values.result _ c.in_ok-put_values.was
    (next_front opening_text values c.put-2.result _ c.in_ok-put-2.was
    (next_front signals (opening_text ++ values) c.put_signals.result _ c.in_ok-put_signals.was
    (next_front _ (signals ++ (opening_text ++ values)) c.put.result _ c.in_ok-put.was (begins _ _) c.put.ensures.written) (same_text (ap (λ (gs : List Signal). joined (signal_lines 1 gs)) c.signals.ensures) c.put_signals.ensures)) c.put-2.ensures.written) c.put_values.ensures) c.put-3.ensures.written)
