use Rattle.std.proofs.Common.{List, ap, ◌∙◌}
use Rattle.c_ast.specs.declared.Func.{Func}
use Rattle.c_ast.specs.declared.Stmt.{Stmt}
use Rattle.c_ast.specs.View.{statements_of, whole_of}
use Rattle.c_ast.specs.Events.{block_events}
use Rattle.c_trim.specs.Candidates.{marked}
use Rattle.c_trim.proofs.Marking.{in_list, in_functions, program_marked}
use Rattle.c_trim.proofs.texts.mark.Goals as goal

pub returns : goal.returns
returns c =
    c.block.ensures ∙ (ap (λ (l : List Stmt). in_list l c.functions.new.candidates) c.deref-2.ensures.value
    ∙ (ap (marked (block_events (statements_of c.args.p.now.main.items)))
    (c.functions.ensures ∙ ap (λ (l : List Func). in_functions l c.args.candidates.now) c.deref.ensures.value)
    ∙ program_marked (whole_of c.args.p.now) c.args.candidates.now))
