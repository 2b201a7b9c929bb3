use Rattle.std.proofs.Common.{ℕ, ℤ, List, ap, sym, subst}
use Rattle.sci_net.specs.Parts.{IsBlock}
use Rattle.sci_vcd.specs.Writing.{Writing}
use Rattle.sci_wave.specs.Noted.{AreNotedTo}
use Rattle.sci_wave.proofs.Blockwise.{noted_run}
use Rattle.sci_wave.proofs.noting.note_from.Goals as goal

pub returns-clause-noted : goal.returns-clause-noted
returns-clause-noted c = λ old h.
    let r = c.args.ready.now in
    let bs = c.args.blocks.now in
    subst (λ (ns : List ℤ). AreNotedTo r old ns bs c.run_end-end.result) (sym (ap (λ (o : Writing). o.noted) c.note_run.ensures.noted))
    (noted_run r old c.args.dump.now.noted bs c.args.at c.run_end-end.result (λ b in_blocks. subst (λ (x : ℕ). IsBlock r.fixed.net x) in_blocks.2 (c.requires.blocks in_blocks.0 b in_blocks.1)) c.note_run.ensures.whole
    c.run_end-end.ensures h)
