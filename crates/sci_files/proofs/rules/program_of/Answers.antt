use Rattle.std.proofs.Common.{arith}
use Rattle.sci_files.proofs.Blamed.{blamed_within}
use Rattle.sci_files.proofs.rules.program_of.Goals as goal

pub blame-requires : goal.blame-requires
blame-requires c =
    let h = rw c.in-Err-NotC.field-0-is at c.in-Err-NotC.ensures.answer in
    let within = blamed_within c.args.bytes.now c.in-Err-NotC.byte h in
    omega (arith, within, c.requires)
