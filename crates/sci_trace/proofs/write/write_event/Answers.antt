use Rattle.std.proofs.Common.{◌≡◌, w64, to_z, of_z, arith}
use Rattle.std.proofs.lemmas.Int.{to_z-of_z}
use Rattle.sci_trace.specs.Lines.{line}
use Rattle.sci_trace.proofs.write.write_event.Goals as goal

pub returns : goal.returns
unfolding line
returns g c =
    let date : to_z w64 (of_z w64 c.args.date) ≡ c.args.date = grind (arith, to_z-of_z) in
    let block : to_z w64 (of_z w64 c.args.block) ≡ c.args.block = grind (arith, to_z-of_z) in
    let port : to_z w64 (of_z w64 c.args.port) ≡ c.args.port = grind (arith, to_z-of_z) in
    simp (c.end_line-at.ensures.text, c.line_from.ensures, c.number_before-at.ensures.text, c.number_before-at-2.ensures.text, c.number_before-at-3.ensures.text, c.word_before-at.ensures.text, date, block, port) at c.put.ensures.written
