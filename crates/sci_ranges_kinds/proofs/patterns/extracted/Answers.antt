use Rattle.sci_ranges_kinds.proofs.Patterning.{extracted_same, extracted_other}
use Rattle.sci_ranges_kinds.proofs.patterns.extracted.Goals as goal

pub returns-then-first-last : goal.returns-then-first-last
returns-then-first-last c =
    rw (c.bits_from_to-least.ensures, c.bits_from_to-greatest.ensures)
    (extracted_same c.args.p c.args.a c.args.b c.two_to-above.result c.requires.order c.two_to-above.ensures c.if-first-last.true)

pub returns-else-first-last : goal.returns-else-first-last
returns-else-first-last c =
    rw c.two_to-count.ensures (extracted_other c.args.p c.args.a c.args.b c.two_to-above.result c.requires.order c.two_to-above.ensures c.if-first-last.false)
