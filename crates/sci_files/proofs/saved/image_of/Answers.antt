use Rattle.std.proofs.Common.{arith}
use Rattle.sci_files.proofs.Blamed.{line_within}
use Rattle.sci_files.proofs.saved.image_of.Goals as goal

pub blame-requires : goal.blame-requires
blame-requires c =
    let h = rw c.in-Err-NotSave.field-0-is at c.in-Err-NotSave.ensures.answer in
    let within = line_within c.args.net.now c.args.inputs.now c.args.bytes.now c.in-Err-NotSave.line h in
    omega (arith, within, c.requires)
