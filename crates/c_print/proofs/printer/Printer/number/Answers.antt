use Rattle.std.proofs.Common.{arith}
use Rattle.std.proofs.lemmas.Int.{ints}
use Rattle.c_print.proofs.Numbers.{signed_nonempty}
use Rattle.c_print.proofs.printer.Printer.number.Goals as goal

pub text-requires : goal.text-requires
text-requires g c = rw (c.as_bytes.ensures.value, c.format.ensures.text) (signed_nonempty _ (λ n e. omega (arith, ints)))
