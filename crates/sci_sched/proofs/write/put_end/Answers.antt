use Rattle.std.proofs.Common.{rules, codes}
use Rattle.sci_io.proofs.Advance.{then_writes, stopped, same_text}
use Rattle.sci_reaction.specs.Kept.{guards_of}
use Rattle.sci_sched.specs.Text.{guards_text}
use Rattle.sci_sched.proofs.write.put_end.Goals as goal

pub returns-in_err-put_guards : goal.returns-in_err-put_guards
returns-in_err-put_guards g c =
    stopped (guards_text (guards_of c.args.guards.now)) (codes "\n") c.put_guards.result c.from_residual.result _ _ c.in_err-put_guards.was (search rules) c.put_guards.ensures

pub returns : goal.returns
returns g c =
    then_writes (guards_text (guards_of c.args.guards.now)) (codes "\n") c.put_guards.result c.put.result _ c.in_ok-put_guards.was c.put_guards.ensures (same_text c.as_bytes.ensures.value c.put.ensures.written)
