use Rattle.std.proofs.Common.{arith, rules, ap, ℕ, ◌+◌, ◌∙◌, subst, sym, ◌≡◌, List, Option, map, take, drop, Result, Fits, w64}
use Rattle.c_ast.specs.View.{exp_of, statements_of}
use Rattle.c_ast.specs.declared.Stmt.{Stmt}
use Rattle.c_ast.proofs.Sizes.{sizes_of, choice_sizes, loop_sizes, item_size}
use Rattle.sci_io.specs.declared.sink.Failed.{Failed}
use Rattle.c_mean.specs.Meaning.{World, Ran, needs, run_block, one_turn, later, block_count, turns, calling}
use Rattle.c_run.specs.Running.{left_of, world, earlier, surroundings, choosing, RunsFrom}
use Rattle.c_run.specs.Layout.{slots}
use Rattle.c_run.specs.declared.machine.Flow.{Flow}
use Rattle.c_run.proofs.Counts.{later_small, later_later, count_more}
use Rattle.c_run.proofs.StepLemmas.{block_on, block_over, turn_on, turn_over, choice_runs, loop_turns, set_runs, ask_runs, call_runs, tell_runs, none_left, stored_is, quiet_defined}
use Rattle.c_run.specs.declared.machine.Routine.{Routine}
use Rattle.c_run.proofs.Calls.{call_found, call_missing}
use Rattle.c_run.proofs.Progress.{Progress, progress_end, undefined_runs, runs_as, runs_moved, runs_called}
use Rattle.c_run.proofs.steps.+run.Goals as goal

pub statement-choose-requires : goal.statement-choose-requires
statement-choose-requires g t c κs within =
    let all = choice_sizes c.args.statement.now c.in-If.condition c.in-If.yes c.in-If.no c.in-If.is in
    let yes = ap sizes_of c.deref.ensures.value in
    let no = ap sizes_of c.deref-in-If.ensures.value in
    (omega arith, within)

pub statement-repeat-requires : goal.statement-repeat-requires
statement-repeat-requires g t c κs within =
    let all = loop_sizes c.args.statement.now c.in-For.counter c.in-For.bound c.in-For.body c.in-For.is in
    let here = ap sizes_of c.deref-in-Some.ensures.value in
    (omega arith, within)

pub block-statement-left-requires : goal.block-statement-left-requires
block-statement-left-requires g t c κs within =
    let less = item_size c.args.list.now c.loop-i.i c.index-list-i.result (omega arith) c.index-list-i.is in
    (omega arith, within)

pub block-loop-i-preserved : goal.block-loop-i-preserved
block-loop-i-preserved g t c = λ n small.
    let list = c.args.list.now in
    let s = c.index-list-i.result in
    let before = block_count (statements_of (take c.loop-i.i list)) in
    let more = count_more list c.loop-i.i s c.loop-i-test.true c.index-list-i.is in
    block_on (surroundings (earlier c.args.functions.now c.args.from) c.args.limits) (later n before) list c.loop-i.i s (world c.loop-i.memory c.loop-i.columns) (world c.statement-left.new.memory c.statement-left.new.columns)
    (g.S.Sink.state c.args.out.now) (g.S.Sink.state c.loop-i.out) (g.S.Sink.state c.statement-left.new.out) _ c.loop-i-test.true c.index-list-i.is (c.loop-i.invariant n small)
    (later n (block_count (statements_of (take (c.loop-i.i + 1) list)))) (ap (later n) more ∙ sym (later_later n before _))
    (rw (c.goes_on.ensures.yes c.if-not-goes_on.false) at (c.statement-left.ensures.from (later n before) (later_small n before)))

pub block-returns-then-not-goes_on : goal.block-returns-then-not-goes_on
block-returns-then-not-goes_on g t c =
    let env = surroundings (earlier c.args.functions.now c.args.from) c.args.limits in
    let list = c.args.list.now in
    let before = block_count (statements_of (take c.loop-i.i list)) in
    let s = c.index-list-i.result in
    let last = world c.statement-left.new.memory c.statement-left.new.columns in
    let first = world c.args.memory.now c.args.columns.now in
    let start = g.S.Sink.state c.args.out.now in
    let now = g.S.Sink.state c.statement-left.new.out in
    record {
      from = λ n small.
          let whole = run_block env n (statements_of list) first in
          subst (λ (result : Result Flow Failed). RunsFrom n start now result last whole) (sym c.behind.ensures)
          (runs_moved n before c.statement-left.result last whole
          (block_over env (later n before) list c.loop-i.i s (world c.loop-i.memory c.loop-i.columns) last start (g.S.Sink.state c.loop-i.out) now whole c.loop-i-test.true c.index-list-i.is (c.loop-i.invariant n small)
          c.statement-left.result (c.goes_on.ensures.no c.if-not-goes_on.true) (c.statement-left.ensures.from (later n before) (later_small n before))));
    }

pub block-returns : goal.block-returns
block-returns g t c =
    let env = surroundings (earlier c.args.functions.now c.args.from) c.args.limits in
    let last = world c.loop-i.memory c.loop-i.columns in
    record {
      from = λ n small.
          let whole = run_block env n (statements_of c.args.list.now) (world c.args.memory.now c.args.columns.now) in
          let here = later n (block_count (statements_of (take c.loop-i.i c.args.list.now))) in
          progress_end n last
          (subst (λ (r : Ran). Progress (g.S.Sink.state c.args.out.now) (g.S.Sink.state c.loop-i.out) whole r) (none_left env here c.args.list.now c.loop-i.i last c.loop-i-test.false) (c.loop-i.invariant n small));
    }

pub repeat-loop-preserved : goal.repeat-loop-preserved
repeat-loop-preserved g t c = λ n small.
    turn_on (one_turn (surroundings (earlier c.args.functions.now c.args.from) c.args.limits) n c.args.counter (statements_of c.args.body.now)) n c.args.times c.loop.counter (world c.loop.memory c.loop.columns) (world c.turn-left.new.memory c.turn-left.new.columns)
    (g.S.Sink.state c.args.out.now) (g.S.Sink.state c.loop.out) (g.S.Sink.state c.turn-left.new.out) _ c.loop-test.true (c.loop.invariant n small)
    (rw (c.goes_on.ensures.yes c.if-not-goes_on.false) at (c.turn-left.ensures.from n small))

pub repeat-returns-then-not-goes_on : goal.repeat-returns-then-not-goes_on
repeat-returns-then-not-goes_on g t c = record {
  from = λ n small.
      turn_over (one_turn (surroundings (earlier c.args.functions.now c.args.from) c.args.limits) n c.args.counter (statements_of c.args.body.now)) n c.args.times c.loop.counter (world c.loop.memory c.loop.columns) (world c.turn-left.new.memory c.turn-left.new.columns)
      (g.S.Sink.state c.args.out.now) (g.S.Sink.state c.loop.out) (g.S.Sink.state c.turn-left.new.out) _ c.loop-test.true (c.loop.invariant n small)
      c.turn-left.result (c.goes_on.ensures.no c.if-not-goes_on.true) (c.turn-left.ensures.from n small);
}

pub statement-returns-in-If : goal.statement-returns-in-If
statement-returns-in-If g t c =
    let env = surroundings (earlier c.args.functions.now c.args.from) c.args.limits in
    let m = world c.args.memory.now c.args.columns.now in
    let e = exp_of c.in-If.condition in
    runs_as c.choose.result _ _ _
    (λ n.
    ap (λ (l : List Stmt). choosing env e (statements_of l) (statements_of c.deref-in-If.result.now) m n) c.deref.ensures.value
    ∙ ap (λ (l : List Stmt). choosing env e (statements_of c.in-If.yes.items) (statements_of l) m n) c.deref-in-If.ensures.value
    ∙ sym (choice_runs env n c.args.statement.now c.in-If.condition c.in-If.yes c.in-If.no m c.in-If.is))
    c.choose.ensures

pub statement-returns-in-None : goal.statement-returns-in-None
statement-returns-in-None g t c =
    let env = surroundings (earlier c.args.functions.now c.args.from) c.args.limits in
    let m = world c.args.memory.now c.args.columns.now in
    undefined_runs (g.S.Sink.state c.args.out.now) (world c.begin.new.memory c.args.columns.now) _
    (λ n.
    loop_turns env n c.args.statement.now c.in-For.counter c.in-For.bound c.in-For.body m (slots c.begin.new.memory) c.begin.result c.in-For.is c.begin.ensures
    ∙ ap (λ (o : Option ℕ). needs n o (λ k. turns k (one_turn env n c.in-For.counter (statements_of c.in-For.body.items)) (world c.begin.new.memory c.args.columns.now))) c.in-None.is)

pub statement-returns-in-Some : goal.statement-returns-in-Some
statement-returns-in-Some g t c =
    let env = surroundings (earlier c.args.functions.now c.args.from) c.args.limits in
    let m = world c.args.memory.now c.args.columns.now in
    let after = world c.begin.new.memory c.args.columns.now in
    runs_as c.repeat.result _ _ _
    (λ n.
    ap (λ (l : List Stmt). turns c.in-Some.times (one_turn env n c.in-For.counter (statements_of l)) after) c.deref-in-Some.ensures.value
    ∙ ap (λ (o : Option ℕ). needs n o (λ k. turns k (one_turn env n c.in-For.counter (statements_of c.in-For.body.items)) after)) (sym c.in-Some.is)
    ∙ sym (loop_turns env n c.args.statement.now c.in-For.counter c.in-For.bound c.in-For.body m (slots c.begin.new.memory) c.begin.result c.in-For.is c.begin.ensures))
    c.repeat.ensures

pub statement-returns-in-Set : goal.statement-returns-in-Set
statement-returns-in-Set g t c =
    let env = surroundings (earlier c.args.functions.now c.args.from) c.args.limits in
    let m = world c.args.memory.now c.args.columns.now in
    quiet_defined (g.S.Sink.state c.args.out.now) (world c.set.new.memory c.args.columns.now) _ c.set.result c.defined.result
    (λ n. set_runs env n c.args.statement.now c.in-Set.target c.in-Set.value m c.in-Set.is ∙ stored_is n m _ c.set.result (slots c.set.new.memory) c.set.ensures) c.defined.ensures.yes c.defined.ensures.no

pub statement-returns-in-Ask : goal.statement-returns-in-Ask
statement-returns-in-Ask g t c =
    let env = surroundings (earlier c.args.functions.now c.args.from) c.args.limits in
    let m = world c.args.memory.now c.args.columns.now in
    quiet_defined (g.S.Sink.state c.args.out.now) (world c.ask.new.memory c.ask.new.columns) _ c.ask.result c.defined-in-Ask.result
    (λ n. ask_runs env n c.args.statement.now c.in-Ask.target c.in-Ask.question m c.in-Ask.is ∙ c.ask.ensures n) c.defined-in-Ask.ensures.yes c.defined-in-Ask.ensures.no

pub statement-returns-in-Call : goal.statement-returns-in-Call
statement-returns-in-Call g t c =
    let env = surroundings (earlier c.args.functions.now c.args.from) c.args.limits in
    let m = world c.args.memory.now c.args.columns.now in
    runs_as c.call.result _ _ _ (λ n. sym (call_runs env n c.args.statement.now c.in-Call.name m c.in-Call.is)) c.call.ensures

pub statement-returns-in-Tell : goal.statement-returns-in-Tell
statement-returns-in-Tell g t c =
    let env = surroundings (earlier c.args.functions.now c.args.from) c.args.limits in
    let m = world c.args.memory.now c.args.columns.now in
    runs_as c.tell.result _ _ _ (λ n. sym (tell_runs env n c.args.statement.now c.in-Tell.observed m c.in-Tell.is)) (c.tell.ensures (map left_of c.args.columns.now))

pub call-block-left-requires : goal.call-block-left-requires
call-block-left-requires g t c κs within =
    let found = call_found c.args.name c.args.from c.in-Some.k c.args.functions.now.routines.items c.index.result.now (sym c.find.ensures.value ∙ c.in-Some.is) in
    let less = found.weighs in
    let here = ap (λ (g : Routine). sizes_of g.body.now) c.index.ensures in
    (omega arith, within)

pub call-returns : goal.call-returns
call-returns g t c =
    let gs = c.args.functions.now.routines.items in
    let m = world c.args.memory.now c.args.columns.now in
    let last = world c.block-left.new.memory c.block-left.new.columns in
    let routine = c.index.result.now in
    let fits : Fits w64 routine.first = search rules in
    let start = g.S.Sink.state c.args.out.now in
    let now = g.S.Sink.state c.block-left.new.out in
    let inner = surroundings (drop (c.in-Some.k + 1) gs) c.args.limits in
    let found = call_found c.args.name c.args.from c.in-Some.k gs routine (sym c.find.ensures.value ∙ c.in-Some.is) in
    let body = ap (λ (g : Routine). run_block inner g.first (statements_of g.body.now) m) c.index.ensures in
    let left = c.block-left.ensures.from routine.first (omega arith) in
    record {
      from = λ n small.
          let whole = calling (surroundings (earlier c.args.functions.now c.args.from) c.args.limits) n c.args.name m in
          let is : run_block inner routine.first (statements_of routine.body.now) m ≡ whole = body ∙ sym (ap (λ (o : Option (World → Ran)). needs n o (λ run. run m)) (found.calls c.args.limits.until c.args.limits.limit)) in
          subst (λ (result : Result Flow Failed). RunsFrom n start now result last whole) (sym c.back.ensures)
          (runs_called n routine.first c.block-left.result last whole (subst (RunsFrom routine.first start now c.block-left.result last) is left));
    }

pub call-returns-in_default : goal.call-returns-in_default
call-returns-in_default g t c =
    let m = world c.args.memory.now c.args.columns.now in
    let none = sym c.find.ensures.value ∙ c.in_default.is in
    undefined_runs (g.S.Sink.state c.args.out.now) m _
    (λ n. ap (λ (o : Option (World → Ran)). needs n o (λ run. run m)) (call_missing c.args.name c.args.from c.args.functions.now.routines.items c.args.limits.until c.args.limits.limit none))
