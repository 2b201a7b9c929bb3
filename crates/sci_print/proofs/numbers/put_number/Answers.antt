use Rattle.std.proofs.lemmas.List.{append-nil}
use Rattle.sci_print.specs.Numbers.{spaced}
use Rattle.sci_print.proofs.numbers.put_number.Goals as goal

pub returns : goal.returns
unfolding spaced
returns g c = simp (c.as_bytes.ensures.value, c.as_bytes-2.ensures.value, c.format.ensures.text, append-nil) at c.put_all.ensures
