use Rattle.std.proofs.Common.{ap, sym, ◌∙◌, subst, List, map, [], pos, Result, Fits, w64, arith, rules}
use Rattle.std.specs.Prelude.{All, IsTrue}
use Rattle.c_ast.specs.declared.Decl.{Decl}
use Rattle.c_ast.specs.declared.Func.{Func}
use Rattle.c_ast.specs.View.{declared_of, function_of, whole_of}
use Rattle.c_run.specs.declared.machine.ColumnRest.{ColumnRest}
use Rattle.c_run.specs.declared.machine.Routine.{Routine}
use Rattle.c_run.specs.declared.start.CEnd.{CEnd}
use Rattle.c_run.specs.declared.start.RunStop.{RunStop}
use Rattle.c_mean.specs.Meaning.{Ran, first_slot, numbered, behind_functions, meaning}
use Rattle.c_run.specs.Running.{left_of, numbered_of, world, RunsFrom}
use Rattle.c_run.specs.Answering.{Answers}
use Rattle.c_rules.specs.Naming.{is_numbered}
use Rattle.c_rules.proofs.Numbering.{variables_numbered, functions_numbered}
use Rattle.c_run.proofs.Calls.{routines_all}
use Rattle.c_run.proofs.Wholes.{answers, run_is}
use Rattle.c_run.proofs.start.run.Goals as goal

pub memory_of-requires : goal.memory_of-requires
memory_of-requires g c =
    subst (λ (l : List Decl). All (λ (d : Decl). IsTrue (is_numbered c.in_ok-names.names d.name)) l) (sym c.deref.ensures.value) (variables_numbered c.args.program.now c.in_ok-names.names c.in_ok-names.ensures.declared)

pub indexed-requires : goal.indexed-requires
indexed-requires g c =
    let functions = c.in_ok-routines_of.ensures ∙ ap (λ (l : List Func). numbered 1 (map function_of l) []) c.deref-2.ensures.value in
    routines_all (is_numbered c.in_ok-names.names) c.args.program.now.funcs.items c.in_ok-routines_of.field-0.items functions (functions_numbered c.args.program.now c.in_ok-names.names c.in_ok-names.ensures.declared)

pub returns : goal.returns
returns g c =
    let fits : Fits w64 c.number_behind-first.result = search rules in
    let functions = ap (λ (l : List Routine). map numbered_of l) c.in_ok-functions.ensures ∙ c.in_ok-routines_of.ensures ∙ ap (λ (l : List Func). numbered 1 (map function_of l) []) c.deref-2.ensures.value in
    let first = c.number_behind-first.result in
    let number = c.number_behind-first.ensures ∙ ap (λ (l : List Func). behind_functions 1 (map function_of l)) c.deref-3.ensures.value in
    let memory = c.in_ok-memory.ensures ∙ ap (λ (l : List Decl). map first_slot (map declared_of l)) c.deref.ensures.value in
    let left = ap (λ (l : List ColumnRest). map left_of l) c.deref_mut.ensures.value ∙ c.in_ok-columns.ensures ∙ c.columns.ensures in
    let whole = meaning (whole_of c.args.program.now) c.args.inputs.now (pos c.args.until) (pos c.args.limit) in
    let last = world c.block-left.new.memory c.block-left.new.columns in
    let same = run_is c.args.program.now c.args.inputs.now (pos c.args.until) (pos c.args.limit) c.limits_of-limits.result c.in_ok-functions.functions.routines.items first c.deref-4.result.now c.in_ok-memory.memory c.deref_mut.result.now c.limits_of-limits.ensures.last c.limits_of-limits.ensures.most functions number c.deref-4.ensures.value memory left in
    subst (λ (r : Result CEnd RunStop). Answers (g.S.Sink.state c.args.out.now) (g.S.Sink.state c.block-left.new.out) r whole) (sym c.answer.ensures)
    (answers first c.block-left.result last whole (subst (λ (r : Ran). RunsFrom first (g.S.Sink.state c.args.out.now) (g.S.Sink.state c.block-left.new.out) c.block-left.result last r) same (c.block-left.ensures.from first (omega arith))))
