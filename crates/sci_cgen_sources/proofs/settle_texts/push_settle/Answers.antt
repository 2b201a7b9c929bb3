use Rattle.std.proofs.lemmas.Result.{on_ok_weaker}
use Rattle.sci_cgen_sources.proofs.RowLemmas.{joined_four}
use Rattle.sci_cgen_sources.proofs.settle_texts.push_settle.Goals as goal

pub returns : goal.returns
returns c =
    on_ok_weaker c.push_halts.result
    (joined_four _ _ _ _ _ _ _ _ _ c.in_ok-push_all_values.ensures c.in_ok-push_delays.ensures c.in_ok-push_states.ensures) c.push_halts.ensures
