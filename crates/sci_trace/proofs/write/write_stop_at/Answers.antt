use Rattle.std.proofs.Common.{◌≡◌, w64, to_z, of_z, arith}
use Rattle.std.proofs.lemmas.Int.{to_z-of_z}
use Rattle.sci_trace.specs.Lines.{line}
use Rattle.sci_trace.proofs.write.write_stop_at.Goals as goal

pub returns : goal.returns
unfolding line
returns g c =
    let block : to_z w64 (of_z w64 c.args.block) ≡ c.args.block = grind (arith, to_z-of_z) in
    simp (c.end_line-at.ensures.text, c.line_from.ensures, c.number_before-at.ensures.text, c.word_before-at.ensures.text, c.word_before-at-2.ensures.text, block) at c.put.ensures.written
