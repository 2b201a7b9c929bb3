use Rattle.std.proofs.Common.{arith, ◌<◌, length}
use Rattle.sci_forms.specs.declared.Kind.TheVariants.{Extractor}
use Rattle.sci_cgen_blocks.proofs.KindBounds.{asks_as, few_ins, names_element}
use Rattle.sci_cgen_blocks.proofs.kind_recipes.part.Goals as goal

pub inputs-requires : goal.inputs-requires
inputs-requires c = omega (arith, few_ins c.args.s.now c.requires.is_typed)

pub extracted-requires-clause-least : goal.extracted-requires-clause-least
extracted-requires-clause-least c = (names_element c.args.s.now c.requires.is_typed c.in-Extractor.is c.args.e c.requires.element).0

pub extracted-requires-clause-most : goal.extracted-requires-clause-most
extracted-requires-clause-most c =
    let one = (asks_as Extractor c.args.s.now c.requires.is_typed c.in-Extractor.is).1 in
    let some : 0 < length c.args.s.now.ins = omega (arith, one) in
    omega (arith, (names_element c.args.s.now c.requires.is_typed c.in-Extractor.is c.args.e c.requires.element).1, c.requires.few 0 some)
