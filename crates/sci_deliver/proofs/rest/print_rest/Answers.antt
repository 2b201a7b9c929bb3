use Rattle.std.proofs.Common.{rules}
use Rattle.std.proofs.lemmas.Result.{err_from_is_err_and}
use Rattle.sci_trace.specs.Lines.{text, stops}
use Rattle.sci_save.specs.Saved.{saved_of}
use Rattle.sci_save.specs.Resumed.{state_of}
use Rattle.sci_deliver.proofs.Giving.{ran_failed, ran_unflushed, ran_flushed}
use Rattle.sci_deliver.proofs.Rests.{rest_stops}
use Rattle.sci_deliver.proofs.rest.print_rest.Goals as goal

pub returns-in_err-end-clause-printed : goal.returns-in_err-end-clause-printed
returns-in_err-end-clause-printed g c =
    let from = state_of (saved_of c.args.resumed.image) in
    let rest = c.requires.rest in
    (rest.0, rest.1, ran_failed (text rest.0) (stops rest.0) c.run_on.result c.from_residual.result _ _ c.in_err-end.was (search rules) (c.run_on.ensures.written from rest.0 c.requires.at rest.1))

pub returns-in_err-flush-clause-printed : goal.returns-in_err-flush-clause-printed
returns-in_err-flush-clause-printed g c =
    let from = state_of (saved_of c.args.resumed.image) in
    let rest = c.in_ok-end.ensures.finished from c.requires.at in
    let err = err_from_is_err_and c.from_residual-in_err-flush.result c.from_residual-in_err-flush.ensures.1 in (
      rest.0,
      rest.1,
      ran_unflushed (text rest.0) (stops rest.0) c.run_on.result c.flush.result c.from_residual-in_err-flush.result _ _ err.0 c.in_ok-end.was c.in_err-flush.was err.1
          (c.run_on.ensures.written from rest.0 c.requires.at rest.1) c.flush.ensures.written c.flush.ensures.all,
    )

pub returns-clause-printed : goal.returns-clause-printed
returns-clause-printed g c =
    let from = state_of (saved_of c.args.resumed.image) in
    let rest = c.in_ok-end.ensures.finished from c.requires.at in (
      rest.0,
      rest.1,
      ran_flushed (text rest.0) (stops rest.0) _ c.run_on.result c.flush.result _ _ c.in_ok-end.was c.in_ok-flush.was
          (c.run_on.ensures.written from rest.0 c.requires.at rest.1) c.flush.ensures.written c.flush.ensures.all (rest_stops _ _ _ _ _ _ rest.0 _ rest.2),
    )
