use Rattle.std.proofs.Common.{sym, subst}
use Rattle.sci_cgen_blocks.specs.Plain.{AreSpelled}
use Rattle.sci_cgen_blocks.proofs.KindSpelled.{along_spelled}
use Rattle.sci_cgen_blocks.proofs.block_texts.next_loop.Goals as goal

pub expression-requires : goal.expression-requires
expression-requires c = subst AreSpelled (sym c.next_along.ensures) (along_spelled c.args.s.now c.requires.is_typed c.requires.some)
