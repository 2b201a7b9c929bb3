use Rattle.std.proofs.Common.{ap, ◌∙◌}
use Rattle.c_ast.specs.Syntax.{choice}
use Rattle.c_ast.specs.View.{exp_of, statements_of}
use Rattle.c_ast.proofs.Views.{choice_is}
use Rattle.sci_cgen_blocks.proofs.writing.only_where.Goals as goal

pub returns : goal.returns
returns c = choice_is c.args.test c.args.body c.new.result ∙ ap (λ xs. choice (exp_of c.args.test) (statements_of c.args.body.items) (statements_of xs)) c.new.ensures.items
