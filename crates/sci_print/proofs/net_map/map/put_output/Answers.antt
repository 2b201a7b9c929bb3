use Rattle.std.proofs.Common.{◌≡◌, w64, to_z, of_z, arith}
use Rattle.std.proofs.lemmas.List.{append-nil}
use Rattle.std.proofs.lemmas.Int.{to_z-of_z}
use Rattle.sci_print.specs.Map.{output_text}
use Rattle.sci_print.proofs.net_map.map.put_output.Goals as goal

pub returns : goal.returns
unfolding output_text
returns g c =
    let rows : to_z w64 (of_z w64 c.args.port.rows) ≡ c.args.port.rows = grind (arith, to_z-of_z) in
    let cols : to_z w64 (of_z w64 c.args.port.cols) ≡ c.args.port.cols = grind (arith, to_z-of_z) in
    simp (c.as_bytes.ensures.value, c.as_bytes-2.ensures.value, c.type_text.ensures, c.kind_of_type.ensures, c.as_bytes-3.ensures.value, c.format.ensures.text, c.as_bytes-4.ensures.value, c.as_bytes-5.ensures.value, c.format-2.ensures.text, c.as_bytes-6.ensures.value, c.as_bytes-7.ensures.value, rows, cols, append-nil) at c.put_all.ensures
