use Rattle.c_ast.specs.declared.Bound.TheVariants as bounds
use Rattle.c_ast.proofs.Views.{loop_is}
use Rattle.sci_cgen_run.proofs.run_texts.counted.Goals as goal

pub returns : goal.returns
returns c = loop_is c.args.counter (bounds.Var c.args.bound) c.args.body
