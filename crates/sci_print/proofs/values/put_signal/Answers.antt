use Rattle.std.proofs.Common.{◌≡◌, ℤ, rules, arith, codes, ◌++◌, ◌-◌, ◌∙◌, subst, get_or, w64, to_z, of_z}
use Rattle.std.proofs.lemmas.Int.{to_z-of_z}
use Rattle.std.specs.Fmt.{signed_decimal}
use Rattle.sci_io.specs.Taken.{Writes}
use Rattle.sci_io.proofs.Advance.{then_writes, stopped}
use Rattle.sci_vcd.specs.Waveforms.{no_signal, value_at}
use Rattle.sci_vcd.specs.Spelling.{name_text}
use Rattle.sci_print.specs.Values.{signal_text}
use Rattle.sci_print.proofs.values.put_signal.Goals as goal

pub returns-in_err-write_name : goal.returns-in_err-write_name
unfolding signal_text
returns-in_err-write_name g c =
    let w = c.args.dump.now in
    stopped (name_text (get_or w.signals (c.args.signal - 1) no_signal)) (codes " " ++ (signed_decimal (value_at w c.args.signal c.args.tick) ++ codes "\n")) c.write_name.result c.from_residual.result _ _ c.in_err-write_name.was (search rules) c.write_name.ensures

pub returns : goal.returns
unfolding signal_text
returns g c =
    let w = c.args.dump.now in
    let same : to_z w64 (of_z w64 c.at.result) ≡ c.at.result = grind (arith, to_z-of_z) in
    let number = subst (λ (v : ℤ). Writes (g.S.Sink.state c.write_name.new.out) (g.S.Sink.state c.put_number.new.out) (codes " " ++ (signed_decimal v ++ codes "\n")) c.put_number.result) (same ∙ c.at.ensures) c.put_number.ensures in
    then_writes (name_text (get_or w.signals (c.args.signal - 1) no_signal)) (codes " " ++ (signed_decimal (value_at w c.args.signal c.args.tick) ++ codes "\n")) c.write_name.result c.put_number.result _ c.in_ok-write_name.was c.write_name.ensures number
