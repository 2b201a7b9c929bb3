use Rattle.std.proofs.Common.{arith}
use Rattle.sci_ranges_marks.proofs.Tested.{bits_past}
use Rattle.sci_ranges_marks.proofs.reading.has_bit.Goals as goal

pub returns-else-p-lt64 : goal.returns-else-p-lt64
returns-else-p-lt64 c = bits_past c.args.mask c.args.p (omega arith) c.if-p-lt64.false
