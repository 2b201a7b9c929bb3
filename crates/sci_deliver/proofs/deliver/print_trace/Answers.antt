use Rattle.std.proofs.Common.{rules, ap}
use Rattle.sci_store.specs.Frame.{Fixed}
use Rattle.sci_trace.specs.Lines.{text, stops}
use Rattle.sci_answers.proofs.Counting.{run_counts}
use Rattle.sci_deliver.proofs.Giving.{ran_failed, ran_unflushed, ran_flushed}
use Rattle.sci_deliver.proofs.Finished.{finished_stops}
use Rattle.sci_deliver.proofs.deliver.print_trace.Goals as goal

pub returns-in_err-end-clause-printed : goal.returns-in_err-end-clause-printed
returns-in_err-end-clause-printed g c =
    let trace = c.requires.trace in
    (trace.0, trace.1, ran_failed (text trace.0) (stops trace.0) c.run.result c.from_residual.result _ _ c.in_err-end.was (search rules) (c.run.ensures.written trace.0 trace.1))

pub returns-in_err-flush-clause-printed : goal.returns-in_err-flush-clause-printed
returns-in_err-flush-clause-printed g c =
    let trace = c.in_ok-end.ensures.finished in (
      trace.0,
      trace.1,
      ran_unflushed (text trace.0) (stops trace.0) c.run.result c.flush.result c.from_residual-in_err-flush.result _ _ _ c.in_ok-end.was c.in_err-flush.was (search rules)
          (c.run.ensures.written trace.0 trace.1) c.flush.ensures.written c.flush.ensures.all,
    )

pub returns-clause-printed : goal.returns-clause-printed
returns-clause-printed g c =
    let trace = c.in_ok-end.ensures.finished in (
      trace.0,
      trace.1,
      ran_flushed (text trace.0) (stops trace.0) _ c.run.result c.flush.result _ _ c.in_ok-end.was c.in_ok-flush.was
          (c.run.ensures.written trace.0 trace.1) c.flush.ensures.written c.flush.ensures.all (finished_stops _ _ _ _ _ trace.0 _ trace.2),
    )

pub returns-clause-counts_run : goal.returns-clause-counts_run
returns-clause-counts_run g c =
    let trace = c.in_ok-end.ensures.finished in
    run_counts _ _ _ _ _ _ trace.0 _ trace.2 (ap (λ (f : Fixed). f.net) c.run.ensures.net) c.requires.net c.requires.limit
