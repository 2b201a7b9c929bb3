use Rattle.std.proofs.Common.{arith}
use Rattle.sci_cgen_blocks.proofs.KindBounds.{few_ins, shift_places, bit_to_set, bit_to_clear, bits_in_order, bits_within}
use Rattle.sci_cgen_blocks.proofs.kind_recipes.recipe.Goals as goal

pub summation-requires : goal.summation-requires
summation-requires c = omega (arith, few_ins c.args.s.now c.requires)

pub extreme-requires : goal.extreme-requires
extreme-requires c = omega (arith, few_ins c.args.s.now c.requires)

pub logical_operation-requires : goal.logical_operation-requires
logical_operation-requires c = omega (arith, few_ins c.args.s.now c.requires)

pub shift-requires : goal.shift-requires
shift-requires c = shift_places c.args.s.now c.requires c.in-Shift.is

pub bit_set-requires : goal.bit_set-requires
bit_set-requires c = bit_to_set c.args.s.now c.requires c.in-BitSet.is

pub bit_clear-requires : goal.bit_clear-requires
bit_clear-requires c = bit_to_clear c.args.s.now c.requires c.in-BitClear.is

pub extract_bits-requires-clause-order : goal.extract_bits-requires-clause-order
extract_bits-requires-clause-order c = bits_in_order c.args.s.now c.requires c.in-ExtractBits.is

pub extract_bits-requires-clause-few : goal.extract_bits-requires-clause-few
extract_bits-requires-clause-few c = bits_within c.args.s.now c.requires c.in-ExtractBits.is
