use Rattle.std.proofs.Common.{arith, ◌≡◌, ◌<◌, ◌++◌, Bool, List, [], map, length, slice_index_or, ap, ◌∙◌}
use Rattle.sci_reaction.specs.Schedule.{Entry}
use Rattle.c_ast.specs.View.{function_of}
use Rattle.sci_net.specs.Sources.{sources_of, source_of}
use Rattle.sci_sched.specs.Plain.{rows_of}
use Rattle.sci_program.specs.Program.{functions_upto, source_function, row_text}
use Rattle.c_ast.specs.Syntax.{Function}
use Rattle.sci_program.specs.Names.{source_name}
use Rattle.sci_cgen.proofs.EmitLemmas.{function_more, none_yet, named_at}
use Rattle.sci_cgen.proofs.generator.push_source_functions.Goals as goal

pub source_function-requires-clause-named : goal.source_function-requires-clause-named
source_function-requires-clause-named c =
    let within : c.loop-source.source < length (rows_of c.args.schedule.now) = omega (arith, c.requires.rows, c.loop-source-test.true, c.source_count-source-end.ensures) in
    named_at c.args.net.now (rows_of c.args.schedule.now) c.loop-source.source _ within c.requires.named c.row-row.ensures

pub loop-source-init : goal.loop-source-init
loop-source-init c = (none_yet _, omega arith)

pub loop-source-preserved : goal.loop-source-preserved
loop-source-preserved c =
    let n = c.args.net.now in
    let rows = rows_of c.args.schedule.now in
    let i = c.loop-source.source in
    let reacts = λ (t : Bool) (row : List Entry). let f : Function = record { name = source_name i; body = row_text t n (source_of n i) row } in f in (
      function_more (source_function n rows) i _ _ _ _ c.in_ok-push.ensures.items
          (c.in_ok-source_function.ensures ∙ ap (reacts c.args.own) c.row-row.ensures ∙ ap (λ t. reacts t (slice_index_or rows i [])) c.requires.own)
          c.loop-source.invariant.0,
      omega arith,
    )

pub returns : goal.returns
returns c =
    let all : c.loop-source.source ≡ length (sources_of c.args.net.now) = omega (arith, c.loop-source.invariant.1) in
    c.loop-source.invariant.0
    ∙ ap (λ m. map function_of c.args.funcs.now.items ++ functions_upto (source_function c.args.net.now (rows_of c.args.schedule.now)) m) all
