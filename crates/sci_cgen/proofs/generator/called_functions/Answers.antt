use Rattle.std.proofs.Common.{suc, false, ◌++◌, map, length, slice_index_or, ap, ◌∙◌}
use Rattle.c_ast.specs.View.{function_of}
use Rattle.sci_net.specs.Sources.{sources_of}
use Rattle.sci_sched.specs.Plain.{rows_of}
use Rattle.sci_program.specs.Program.{functions_upto, block_function, source_function, other_functions}
use Rattle.sci_cgen.specs.Built.{marked_function}
use Rattle.sci_cgen.proofs.EmitLemmas.{marked_same}
use Rattle.sci_cgen.proofs.generator.called_functions.Goals as goal

pub returns : goal.returns
returns c =
    let n = c.args.net.now in let rows = rows_of c.args.schedule.now in
    let blocks = functions_upto (λ k. marked_function n (slice_index_or c.args.marks.now k false) (suc k)) (length n.specs) in
    let sources = functions_upto (source_function n rows) (length (sources_of n)) in
    c.in_ok-push_source_functions.ensures
    ∙ ap (λ l. l ++ sources)
    (c.in_ok-push_other_functions.ensures
    ∙ ap (λ l. l ++ other_functions c.args.own n)
    (c.in_ok-push_block_functions.ensures ∙ ap (λ xs. map function_of xs ++ blocks) c.new-funcs.ensures.items ∙ marked_same n rows c.args.marks.now c.requires.marked))
    ∙ ap (λ t. (functions_upto (λ k. block_function n rows (suc k)) (length n.specs) ++ other_functions t n) ++ sources) c.requires.own
