use Rattle.std.proofs.Common.{sym, subst}
use Rattle.sci_cgen_blocks.specs.Plain.{AreSpelled}
use Rattle.sci_cgen_blocks.proofs.KindSpelled.{delay_spelled}
use Rattle.sci_cgen_blocks.proofs.block_texts.block_delay.Goals as goal

pub expression-requires : goal.expression-requires
expression-requires c = subst AreSpelled (sym c.in_ok-delay_term.ensures) (delay_spelled c.args.s.now c.requires.is_typed)
