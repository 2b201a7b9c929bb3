use Rattle.std.proofs.Common.{is_some, ap, sym}
use Rattle.sci_json.proofs.Numbers.{few_unsigned}
use Rattle.sci_json.proofs.document.number.is_unsigned_in_range.Goals as goal

pub returns-in-Some : goal.returns-in-Some
returns-in-Some c = let few = c.in-Some.ensures in ap is_some (sym (few_unsigned c.args.bytes.now c.in-Some.field-0 few.0 few.1 few.2))
