use Rattle.sci_save.proofs.write.put_stands.Goals as goal

pub returns : goal.returns
returns g c =
    simp (c.as_bytes.ensures.value, c.as_bytes-2.ensures.value, c.as_bytes-3.ensures.value, c.as_bytes-4.ensures.value, c.as_bytes-5.ensures.value, c.format.ensures.text, c.format-2.ensures.text) at c.put_all.ensures
