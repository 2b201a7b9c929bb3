use Rattle.std.proofs.Common.{◌≡◌, ◌∙◌, List, length, ap, arith}
use Rattle.sci_store.specs.declared.row.Run.{Run}
use Rattle.sci_store.specs.Store.{Standing}
use Rattle.sci_store.specs.Rows.{ReadyRow}
use Rattle.sci_store.specs.Runs.{called_blocks}
use Rattle.sci_store.proofs.Updating.{stepped_begin, stepped_all, store_kept, values_kept}
use Rattle.sci_store.proofs.StateRuns.{run_there, run_may_step, run_further, runs_stepped, remembering_among, begun_behind}
use Rattle.sci_store.proofs.store.Store.update_all.Given.{Over}
use Rattle.sci_store.proofs.store.Store.update_all.Goals as goal
use Rattle.sci_store.proofs.store.Store.update_all.Goals.{At-loop-run}

-- the runs that are gone through
runs_are : (g : Over) (c : At-loop-run g) → c.deref-run-items.result.now ≡ c.args.row.now.state_runs
runs_are g c = c.deref-run-items.ensures.value ∙ ap (λ (r : ReadyRow). r.state_runs) c.row.view_is

pub loop-run-init : goal.loop-run-init
loop-run-init g c = stepped_begin c.args.frame.now c.args.self.now _ c.requires.seated

pub update_run-requires-clause-store : goal.update_run-requires-clause-store
update_run-requires-clause-store g c = store_kept c.args.frame.now _ c.args.self.now c.loop-run.self _ _ c.loop-run.invariant c.requires.store

pub update_run-requires-clause-seated : goal.update_run-requires-clause-seated
update_run-requires-clause-seated g c = c.loop-run.invariant.seated

pub update_run-requires-clause-begun : goal.update_run-requires-clause-begun
update_run-requires-clause-begun g c =
    begun_behind c.args.frame.now c.args.row.now c.args.self.now c.loop-run.self (ap (λ (s : Standing). s.marks) c.loop-run.invariant.same) c.requires.begun

pub update_run-requires-clause-run : goal.update_run-requires-clause-run
update_run-requires-clause-run g c =
    run_there c.args.frame.now c.args.row.now c.well_formed-2.ensures c.requires.row c.deref-run-items.result.now (runs_are g (goal.at.update_run-requires-clause-run g c).At-loop-run) c.loop-run.run-index _
    c.loop-run-test.true

pub update_run-requires-clause-may_step : goal.update_run-requires-clause-may_step
update_run-requires-clause-may_step g c =
    run_may_step c.args.frame.now c.args.row.now c.well_formed-2.ensures c.requires.row c.deref-run-items.result.now (runs_are g (goal.at.update_run-requires-clause-may_step g c).At-loop-run) c.loop-run.run-index _
    c.loop-run-test.true c.args.self.now c.loop-run.self c.args.lib.now c.loop-run.lib c.loop-run.invariant c.args.inputs.now c.requires.may_step

pub loop-run-preserved : goal.loop-run-preserved
loop-run-preserved g c =
    run_further c.args.frame.now c.args.row.now c.well_formed-2.ensures c.requires.row c.deref-run-items.result.now (runs_are g (goal.at.loop-run-preserved g c).At-loop-run) c.loop-run.run-index _
    c.loop-run-test.true c.args.self.now c.loop-run.self c.args.lib.now c.loop-run.lib c.loop-run.invariant c.update_run.new.self c.update_run.new.lib c.update_run.ensures

pub returns-clause-stepped : goal.returns-clause-stepped
returns-clause-stepped g c source m y active is shown among before memory =
    let f = c.args.frame.now in
    let r = c.args.row.now in
    let long = ap (λ (rs : List Run). length rs) (runs_are g (goal.at.returns-clause-stepped g c).At-loop-run) in
    let done = runs_stepped c.args.frame.now c.args.row.now c.well_formed-2.ensures c.requires.row c.loop-run.run-index c.args.self.now c.loop-run.self c.args.lib.now c.loop-run.lib
    (omega (arith, long, c.loop-run-test.false)) c.loop-run.invariant in
    stepped_all c.args.frame.now source m y active (called_blocks c.args.row.now.state_calls) c.args.self.now c.loop-run.self _ _ c.well_formed-2.ensures.net is shown
    (remembering_among c.args.frame.now c.args.row.now c.well_formed-2.ensures c.requires.row active among) before done memory c.requires.may_step.values

pub returns-clause-values : goal.returns-clause-values
returns-clause-values g c = values_kept c.args.frame.now _ c.args.self.now c.loop-run.self _ _ c.loop-run.invariant

pub returns-clause-store : goal.returns-clause-store
returns-clause-store g c = store_kept c.args.frame.now _ c.args.self.now c.loop-run.self _ _ c.loop-run.invariant c.requires.store
