use Rattle.std.proofs.Common.{◌≡◌, [], sym}
use Rattle.std.specs.Prelude.{nat_eq}
use Rattle.std.proofs.lemmas.Bool.{cond-false, ne_eqb}
use Rattle.sci_io.proofs.Advance.{same_text}
use Rattle.sci_vcd.specs.Writing.{tick_text}
use Rattle.sci_wave.proofs.driver.close_past.Goals as goal

pub returns-clause-written : goal.returns-clause-written
returns-clause-written g c =
    same_text (sym (cond-false (nat_eq c.args.now c.args.date) [] (tick_text c.args.dump.now c.args.date) (ne_eqb c.args.now c.args.date (λ (e : c.args.now ≡ c.args.date). c.if-now-date.false e)))) c.close_tick.ensures.written
