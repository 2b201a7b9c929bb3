use Rattle.std.proofs.Common.{sym, subst}
use Rattle.sci_cgen_blocks.specs.Plain.{AreSpelled}
use Rattle.sci_cgen_blocks.proofs.KindSpelled.{switch_spelled}
use Rattle.sci_cgen_blocks.proofs.choice_texts.switched.Goals as goal

pub expression-requires : goal.expression-requires
expression-requires c = subst AreSpelled (sym c.in_ok-is_first.ensures) (switch_spelled c.args.s.now c.requires.is_typed c.requires.kind)
