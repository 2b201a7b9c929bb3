use Rattle.std.proofs.lemmas.List.{append-nil}
use Rattle.sci_sched.specs.Text.{guard_text}
use Rattle.sci_sched.proofs.write.put_guard.Goals as goal

pub returns : goal.returns
unfolding guard_text
returns g c =
    simp (c.as_bytes.ensures.value, c.as_bytes-2.ensures.value, c.as_bytes-3.ensures.value, c.as_bytes-4.ensures.value, c.format.ensures.text, c.format-2.ensures.text, append-nil) at c.put_all.ensures
