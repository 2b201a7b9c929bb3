use Rattle.std.proofs.lemmas.List.{append-nil}
use Rattle.sci_print.specs.Map.{number_text}
use Rattle.sci_print.proofs.net_map.map.put_number.Goals as goal

pub returns : goal.returns
unfolding number_text
returns g c = simp (c.as_bytes.ensures.value, c.as_bytes-2.ensures.value, c.format.ensures.text, append-nil) at c.put_all.ensures
