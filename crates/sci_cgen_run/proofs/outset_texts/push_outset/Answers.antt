use Rattle.std.proofs.lemmas.Result.{on_ok_weaker}
use Rattle.sci_cgen_run.proofs.OutsetLemmas.{outset_put}
use Rattle.sci_cgen_run.proofs.outset_texts.push_outset.Goals as goal

pub returns : goal.returns
returns c =
    on_ok_weaker c.push_programmed.result (λ e.
    outset_put c.args.net.now _ _ _ _ _ _ c.in_ok-push_all_held.ensures c.in_ok-push_all_states.ensures c.in_ok-count.ensures.text
    c.in_ok-count.ensures.count e) c.push_programmed.ensures
