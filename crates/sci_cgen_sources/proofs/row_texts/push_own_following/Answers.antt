use Rattle.std.proofs.Common.{ℕ, ap, ◌∙◌}
use Rattle.std.proofs.lemmas.Result.{on_ok_weaker}
use Rattle.c_ast.specs.View.{statements_of}
use Rattle.c_mean.specs.Texts.{joined}
use Rattle.sci_program.specs.declared.part.Part.{Part}
use Rattle.sci_program.specs.Program.{settle_text}
use Rattle.sci_cgen_sources.proofs.row_texts.push_own_following.Goals as goal

pub returns : goal.returns
returns c =
    on_ok_weaker c.push_settle.result
    (λ e. e ∙ ap (λ (p : ℕ → Part). joined (statements_of c.args.out.now.items) (settle_text c.args.net.now p)) c.in_ok-taking.ensures)
    c.push_settle.ensures
