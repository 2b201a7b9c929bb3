use Rattle.std.proofs.Common.{arith}
use Rattle.std.proofs.lemmas.Fmt.{length-decimal-le}
use Rattle.sci_lines.proofs.digit_table.ThreeDigits.new.Goals as goal

pub digits_at-len-requires : goal.digits_at-len-requires
digits_at-len-requires c = let few = length-decimal-le 3 c.args.n (omega arith) c.requires (omega (arith, c.requires)) in omega (arith, few)
