use Rattle.std.proofs.lemmas.List.{append-nil}
use Rattle.sci_print.specs.Map.{kind_text}
use Rattle.sci_print.proofs.net_map.map.put_kind.Goals as goal

pub returns : goal.returns
unfolding kind_text
returns g c = simp (c.as_bytes.ensures.value, c.as_bytes-2.ensures.value, c.name_of.ensures, append-nil) at c.put_all.ensures
