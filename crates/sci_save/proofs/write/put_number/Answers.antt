use Rattle.std.proofs.lemmas.List.{append-nil}
use Rattle.std.proofs.lemmas.Int.{to_z-of_z}
use Rattle.std.proofs.Common.{rules}
use mir.Val.{SFits}
use mir.Syntax.{w64}
use Rattle.sci_save.proofs.write.put_number.Goals as goal

pub returns : goal.returns
returns g c =
    let fits : SFits w64 c.args.number = search rules in
    simp (c.as_bytes.ensures.value, c.as_bytes-2.ensures.value, c.format.ensures.text, to_z-of_z w64 c.args.number fits, append-nil) at c.put_all.ensures
