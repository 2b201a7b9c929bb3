use Rattle.std.proofs.Common.{sym, ap, ◌∙◌}
use Rattle.c_ast.specs.View.{statements_of}
use Rattle.c_mean.specs.Texts.{joined}
use Rattle.sci_cgen_blocks.proofs.Written.{joined_done}
use Rattle.sci_program.specs.declared.part.Part.{Part}
use Rattle.sci_program.specs.Program.{where_part}
use Rattle.sci_cgen_sources.proofs.settle_texts.push_where_part.Goals as goal

pub returns-in-Absent : goal.returns-in-Absent
returns-in-Absent c =
    sym (joined_done _)
    ∙ ap (λ (p : Part). joined (statements_of c.args.out.now.items) (where_part p c.args.block (statements_of c.args.body.items))) (sym c.in-Absent.is)
