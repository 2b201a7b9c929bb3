use Rattle.sci_sched.proofs.write.put_together.Goals as goal

pub returns : goal.returns
returns g c = simp (c.text_from.ensures, c.lines_before-at.ensures.text) at c.put.ensures.written
