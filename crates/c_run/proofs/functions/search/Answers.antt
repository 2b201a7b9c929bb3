use Rattle.std.proofs.Common.{◌∙◌, ◌+◌, sym, cond, ap, Some, Bool}
use Rattle.c_run.specs.Calls.{latest}
use Rattle.c_run.proofs.Calls.{latest_step, latest_end}
use Rattle.c_run.proofs.functions.search.Goals as goal

pub loop-k-preserved : goal.loop-k-preserved
loop-k-preserved c =
    let gs = c.args.routines.now in
    let k = c.loop-k.k in
    sym (latest_step c.args.name k gs c.index-routines-k.result c.loop-k-test.true ∙ ap (λ (b : Bool). cond b (Some k) (latest c.args.name (k + 1) gs)) (sym c.same.ensures ∙ c.if-same.false)) ∙ c.loop-k.invariant

pub returns : goal.returns
returns c = record { value = sym (latest_end c.args.name c.loop-k.k c.args.routines.now c.loop-k-test.false) ∙ c.loop-k.invariant; within = tt }

pub returns-then-same : goal.returns-then-same
returns-then-same c =
    let gs = c.args.routines.now in
    let k = c.loop-k.k in
    record {
      value = sym (latest_step c.args.name k gs c.index-routines-k.result c.loop-k-test.true ∙ ap (λ (b : Bool). cond b (Some k) (latest c.args.name (k + 1) gs)) (sym c.same.ensures ∙ c.if-same.true)) ∙ c.loop-k.invariant;
      within = c.loop-k-test.true;
    }
