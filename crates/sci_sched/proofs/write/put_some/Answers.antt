use Rattle.sci_sched.proofs.write.put_some.Goals as goal

pub put_together-requires-clause-alone : goal.put_together-requires-clause-alone
put_together-requires-clause-alone g c = c.has_guards.ensures c.if-has_guards.false
