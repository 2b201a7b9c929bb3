use Rattle.std.proofs.Common.{rules, ap}
use Rattle.std.proofs.lemmas.Result.{err_from_is_err_and}
use Rattle.sci_store.specs.Frame.{Fixed}
use Rattle.sci_trace.specs.Lines.{stops}
use Rattle.sci_vcd.specs.Spelling.{spelling}
use Rattle.sci_answers.proofs.Counting.{run_counts}
use Rattle.sci_deliver.proofs.Giving.{ran_failed, ran_unflushed, ran_flushed}
use Rattle.sci_deliver.proofs.Finished.{finished_stops}
use Rattle.sci_deliver.proofs.run_dump.print_dump.Goals as goal

pub returns-in_err-end-clause-printed : goal.returns-in_err-end-clause-printed
returns-in_err-end-clause-printed g c =
    let dump = c.dump_run.ensures.written in
    let trace = c.requires.run.trace in
    let err = err_from_is_err_and c.from_residual.result c.from_residual.ensures.1 in
    (dump.0, dump.1, trace.0, trace.1, ran_failed (spelling dump.0) (stops trace.0) c.dump_run.result c.from_residual.result _ _ c.in_err-end.was err.1 dump.2)

pub returns-in_err-flush-clause-printed : goal.returns-in_err-flush-clause-printed
returns-in_err-flush-clause-printed g c =
    let dump = c.dump_run.ensures.written in
    let trace = c.in_ok-end.ensures.finished in
    let err = err_from_is_err_and c.from_residual-in_err-flush.result c.from_residual-in_err-flush.ensures.1 in (
      dump.0,
      dump.1,
      trace.0,
      trace.1,
      ran_unflushed (spelling dump.0) (stops trace.0) c.dump_run.result c.flush.result c.from_residual-in_err-flush.result _ _ err.0 c.in_ok-end.was c.in_err-flush.was err.1
          dump.2 c.flush.ensures.written c.flush.ensures.all,
    )

pub returns-clause-printed : goal.returns-clause-printed
returns-clause-printed g c =
    let dump = c.dump_run.ensures.written in
    let trace = c.in_ok-end.ensures.finished in (
      dump.0,
      dump.1,
      trace.0,
      trace.1,
      ran_flushed (spelling dump.0) (stops trace.0) _ c.dump_run.result c.flush.result _ _ c.in_ok-end.was c.in_ok-flush.was
          dump.2 c.flush.ensures.written c.flush.ensures.all (finished_stops _ _ _ _ _ trace.0 _ trace.2),
    )

pub returns-clause-counts_run : goal.returns-clause-counts_run
returns-clause-counts_run g c =
    let trace = c.in_ok-end.ensures.finished in
    run_counts _ _ _ _ _ _ trace.0 _ trace.2 (ap (λ (f : Fixed). f.net) c.dump_run.ensures.net) c.requires.run.net c.requires.run.limit
