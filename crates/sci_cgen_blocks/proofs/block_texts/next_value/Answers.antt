use Rattle.std.proofs.Common.{sym, subst}
use Rattle.sci_cgen_blocks.specs.Plain.{AreSpelled}
use Rattle.sci_cgen_blocks.proofs.KindSpelled.{next_spelled}
use Rattle.sci_cgen_blocks.proofs.block_texts.next_value.Goals as goal

pub expression-requires : goal.expression-requires
expression-requires c = subst AreSpelled (sym c.in_ok-next_term.ensures) (next_spelled c.args.s.now c.requires.is_typed c.args.i c.requires.value)
