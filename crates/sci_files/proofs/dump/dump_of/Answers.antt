use Rattle.std.proofs.Common.{arith}
use Rattle.sci_files.proofs.Dumped.{line_within}
use Rattle.sci_files.proofs.dump.dump_of.Goals as goal

pub blame-requires : goal.blame-requires
blame-requires c =
    let h = rw c.in-Err-NotVcd.field-0-is at c.in-Err-NotVcd.ensures.answer in
    let within = line_within c.args.bytes.now c.in-Err-NotVcd.line h in
    omega (arith, within, c.requires)
