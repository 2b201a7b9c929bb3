use Rattle.std.proofs.Common.{◌≡◌, w64, to_z, of_z, arith}
use Rattle.std.proofs.lemmas.List.{append-nil}
use Rattle.std.proofs.lemmas.Int.{to_z-of_z}
use Rattle.sci_ranges_tell.proofs.lines.put_number.Goals as goal

pub returns : goal.returns
returns g c =
    let e : to_z w64 (of_z w64 c.args.value) ≡ c.args.value = grind (arith, to_z-of_z) in
    simp (c.as_bytes.ensures.value, c.as_bytes-2.ensures.value, c.format.ensures.text, e, append-nil) at c.put_all.ensures
