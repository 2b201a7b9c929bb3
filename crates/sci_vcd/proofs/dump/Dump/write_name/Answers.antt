use Rattle.std.proofs.Common.{◌-◌, ◌∙◌, length, ap, arith}
use Rattle.std.specs.Prelude.{slice_index_or}
use Rattle.std.proofs.lemmas.List.{get_or_read}
use Rattle.sci_io.proofs.Advance.{same_text}
use Rattle.sci_vcd.specs.Waveforms.{Waveforms, no_signal}
use Rattle.sci_vcd.specs.Spelling.{name_text}
use Rattle.sci_vcd.proofs.dump.Dump.write_name.Goals as goal

pub returns : goal.returns
returns g c =
    let gs = c.self.inside.draft.signals.items in
    let size = ap (λ (w : Waveforms). length w.signals) c.self.view_is in
    let read = get_or_read gs (c.args.signal - 1) c.index.result.now (omega (arith, size, c.requires.least, c.requires.most)) c.index.ensures no_signal in
    same_text (ap name_text (read ∙ ap (λ (w : Waveforms). slice_index_or w.signals (c.args.signal - 1) no_signal) c.self.view_is)) c.write_name.ensures
