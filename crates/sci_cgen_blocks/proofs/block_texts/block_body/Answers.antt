use Rattle.std.proofs.Common.{sym, ◌∙◌}
use Rattle.sci_cgen_blocks.proofs.KindSpelled.{way_of_parts}
use Rattle.sci_cgen_blocks.proofs.block_texts.block_body.Goals as goal

pub parts-requires : goal.parts-requires
parts-requires c = record {
  is_typed = c.requires.is_typed;
  few = c.requires.few;
  own = c.in_default.not-Sensor;
  separate = way_of_parts c.args.s.now.kind c.args.s.now c.in_default-kind.not-Switch2 c.in_default-kind-2.not-Select c.in_default-kind-3.not-Logic
      (sym c.is_alike.ensures ∙ c.if-is_alike.false);
}
