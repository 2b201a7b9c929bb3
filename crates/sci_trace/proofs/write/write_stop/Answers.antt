use Rattle.std.proofs.Common.{◌≡◌, ap, sym, w64, to_z, of_z, arith}
use Rattle.std.proofs.lemmas.Int.{to_z-of_z}
use Rattle.sci_io.proofs.Advance.{same_text}
use Rattle.sci_base.specs.declared.observation.StopWord.{StopWord}
use Rattle.sci_base.specs.declared.observation.Obs.TheVariants.{Stop}
use Rattle.sci_trace.specs.Lines.{line}
use Rattle.sci_trace.proofs.write.write_stop.Goals as goal

pub returns-in-Overflow : goal.returns-in-Overflow
unfolding line
returns-in-Overflow g c =
    let block : to_z w64 (of_z w64 c.args.block) ≡ c.args.block = grind (arith, to_z-of_z) in
    same_text (sym (ap (λ (w : StopWord). line (Stop w c.args.block c.args.port)) c.in-Overflow.is)) (simp block at c.write_stop_at.ensures)

pub returns-in-Zero : goal.returns-in-Zero
unfolding line
returns-in-Zero g c =
    let block : to_z w64 (of_z w64 c.args.block) ≡ c.args.block = grind (arith, to_z-of_z) in
    same_text (sym (ap (λ (w : StopWord). line (Stop w c.args.block c.args.port)) c.in-Zero.is)) (simp block at c.write_stop_at-in-Zero.ensures)

pub returns-in-Input : goal.returns-in-Input
unfolding line
returns-in-Input g c =
    let block : to_z w64 (of_z w64 c.args.block) ≡ c.args.block = grind (arith, to_z-of_z) in
    same_text (sym (ap (λ (w : StopWord). line (Stop w c.args.block c.args.port)) c.in-Input.is)) (simp block at c.write_stop_at-in-Input.ensures)
