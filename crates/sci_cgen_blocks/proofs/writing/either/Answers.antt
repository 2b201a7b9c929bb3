use Rattle.c_ast.proofs.Views.{choice_is}
use Rattle.sci_cgen_blocks.proofs.writing.either.Goals as goal

pub returns : goal.returns
returns c = choice_is c.args.test c.args.then c.args.otherwise
