use Rattle.std.proofs.Common.{arith, w64, ap, ◌∙◌, ℤ, to_z}
use Rattle.std.proofs.lemmas.Int.{to_z_pos}
use Rattle.c_ast.specs.declared.Bound.TheVariants as bounds
use Rattle.c_ast.specs.Syntax.{loop}
use Rattle.c_ast.specs.View.{statements_of}
use Rattle.c_ast.proofs.Views.{loop_is}
use Rattle.sci_cgen_blocks.proofs.writing.repeated.Goals as goal

pub returns : goal.returns
returns c =
    loop_is c.args.counter (bounds.Num (to_z w64 c.args.count)) c.args.body
    ∙ ap (λ (z : ℤ). loop c.args.counter (bounds.Num z) (statements_of c.args.body.items)) (to_z_pos w64 c.args.count (omega (arith, c.ranges.count)))
