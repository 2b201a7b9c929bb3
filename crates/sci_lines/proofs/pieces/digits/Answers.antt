use Rattle.std.proofs.Common.{rules, arith}
use Rattle.itoa.proofs.Decimal.{length_four}
use Rattle.sci_lines.proofs.Digits.{at_most_20}
use Rattle.sci_lines.proofs.pieces.digits.Goals as goal

pub overflow_add-count : goal.overflow_add-count
overflow_add-count c = let most = at_most_20 c.args.n c.ranges.n.fits in search (rules, most, c.loop-left.invariant)

pub loop-left-preserved : goal.loop-left-preserved
loop-left-preserved c =
    let four = length_four c.loop-left.left (omega (arith, c.loop-left-test.true)) c.loop-left.auto.left-fits.fits in
    omega (arith, four, c.loop-left.invariant)

pub overflow_add-result : goal.overflow_add-result
overflow_add-result c =
    let most = at_most_20 c.args.n c.ranges.n.fits in search (rules, most, c.loop-left.invariant, c.few_digits.ensures)
