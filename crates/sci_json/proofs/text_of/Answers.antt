use Rattle.std.proofs.Common.{rules}
use Rattle.sci_json.proofs.text_of.Goals as goal

pub returns-in-Err-clause-stop : goal.returns-in-Err-clause-stop
returns-in-Err-clause-stop c = (c.in-Some.s.now, search rules)
