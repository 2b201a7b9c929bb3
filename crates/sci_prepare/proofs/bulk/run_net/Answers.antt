use Rattle.std.proofs.Common.{rules, ap}
use Rattle.sci_store.specs.Frame.{Fixed}
use Rattle.sci_prepare.proofs.Bulked.{no_columns, stands_there, has_run, has_counts}
use Rattle.sci_prepare.proofs.bulk.run_net.Goals as goal

pub run-requires-clause-columns : goal.run-requires-clause-columns
run-requires-clause-columns g c = no_columns _ c.of-inputs.result (search rules)

pub run-requires-clause-start : goal.run-requires-clause-start
run-requires-clause-start g c = stands_there _ _ _ c.in_ok-ready.ensures.start

pub returns-clause-ran : goal.returns-clause-ran
returns-clause-ran g c =
    has_run _ _ c.of-inputs.result _ _ _ c.run.result (search rules) c.in_ok-ready.ensures.start.net (search rules) c.requires.plan c.run.ensures.written c.run.ensures.finished

pub returns-clause-counts_run : goal.returns-clause-counts_run
returns-clause-counts_run g c =
    has_counts _ _ c.of-inputs.result _ _ _ c.run.result (search rules) c.in_ok-ready.ensures.start.net (search rules) c.requires.plan c.run.ensures.written c.run.ensures.finished
    (ap (λ (f : Fixed). f.net) c.run.ensures.net)
