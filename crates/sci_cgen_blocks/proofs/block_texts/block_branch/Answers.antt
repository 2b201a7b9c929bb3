use Rattle.std.proofs.Common.{sym, subst}
use Rattle.sci_cgen_blocks.specs.Plain.{AreSpelled}
use Rattle.sci_cgen_blocks.proofs.KindSpelled.{branch_spelled}
use Rattle.sci_cgen_blocks.proofs.block_texts.block_branch.Goals as goal

pub expression-requires : goal.expression-requires
expression-requires c = subst AreSpelled (sym c.in_ok-branch_term.ensures) (branch_spelled c.args.s.now c.requires.is_typed)
