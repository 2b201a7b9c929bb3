use Rattle.std.proofs.Common.{ap}
use Rattle.sci_io.proofs.Advance.{same_text}
use Rattle.sci_net.specs.Parts.{Parts}
use Rattle.sci_save.specs.Saved.{saved_of}
use Rattle.sci_save.specs.Text.{saved_text}
use Rattle.sci_deliver.proofs.Giving.{flushed}
use Rattle.sci_deliver.proofs.deliver.give_saved.Goals as goal

pub returns : goal.returns
returns g c =
    let saved = c.args.saved.now in
    flushed (saved_text saved.ready.fixed.net (saved_of saved.image)) c.write_save.result c.flush.result _ c.in_ok-write_save.was
    (same_text (ap (λ (n : Parts). saved_text n (saved_of saved.image)) c.net.ensures) c.write_save.ensures) c.flush.ensures.written c.flush.ensures.all
