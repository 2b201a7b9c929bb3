use Rattle.std.proofs.Common.{ℕ, List, ap, ◌∙◌}
use Rattle.c_ast.specs.declared.Name.{Name}
use Rattle.c_ast.specs.declared.Stmt.{Stmt}
use Rattle.c_ast.specs.Syntax.{Block, Function}
use Rattle.c_ast.specs.View.{statements_of}
use Rattle.c_mean.specs.Texts.{joined}
use Rattle.sci_program.specs.declared.part.Part.{Part}
use Rattle.sci_program.specs.Names.{settle_name}
use Rattle.sci_program.specs.Program.{settle_text}
use Rattle.sci_cgen_sources.specs.Taking.{takes}
use Rattle.sci_cgen_sources.proofs.source_functions.settle_function.Goals as goal

pub returns : goal.returns
returns c =
    let n = c.args.net.now in
    let named = λ (x : Name) (b : Block). let f : Function = record { name = x; body = b } in f in
    ap (λ (x : Name). named x (statements_of c.push_settle.new.out.items)) c.settle.ensures
    ∙ ap (named settle_name) (c.in_ok-push_settle.ensures
    ∙ ap (λ (xs : List Stmt). joined (statements_of xs) (settle_text n (takes c.marked_taking-taking.result))) c.new-body.ensures.items
    ∙ ap (λ (p : ℕ → Part). settle_text n p) c.marked_taking-taking.ensures)
