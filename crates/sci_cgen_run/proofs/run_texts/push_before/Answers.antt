use Rattle.std.proofs.Common.{Bool, not, ap}
use Rattle.sci_cgen_base.proofs.TextLemmas.{where_false}
use Rattle.sci_cgen_run.proofs.run_texts.push_before.Goals as goal

pub returns-then-own : goal.returns-then-own
returns-then-own c = where_false _ _ (not c.args.own) (ap (λ (t : Bool). not t) c.if-own.true)
