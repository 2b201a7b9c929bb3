use Rattle.std.proofs.Common.{option_and_then, ap, sym, ◌∙◌}
use Rattle.serde_json.specs.Find.{as_i64}
use Rattle.sci_json.proofs.Numbers.{few_unsigned, positive_is}
use Rattle.sci_json.proofs.document.number.unsigned.Goals as goal

pub returns-in-Some : goal.returns-in-Some
returns-in-Some c =
    let few = c.in-Some.ensures in
    positive_is c.in-Some.n few.2 ∙ ap (option_and_then as_i64) (sym (few_unsigned c.args.bytes.now c.in-Some.n few.0 few.1 few.2))
