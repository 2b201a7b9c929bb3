use Rattle.std.proofs.Common.{arith}
use Rattle.std.proofs.lemmas.Fmt.{decimal_nonempty}
use Rattle.c_print.proofs.printer.Printer.counted.Goals as goal

pub text-requires : goal.text-requires
text-requires g c = rw (c.as_bytes.ensures.value, c.format.ensures.text) (decimal_nonempty c.args.n (omega arith))
