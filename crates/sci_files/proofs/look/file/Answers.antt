use Rattle.std.proofs.Common.{rules, arith, ◌≤◌, length}
use Rattle.sci_files.proofs.Whole.{long_whole, short_whole}
use Rattle.sci_files.proofs.look.file.Goals as goal

pub returns-then-len-limit-clause-file : goal.returns-then-len-limit-clause-file
returns-then-len-limit-clause-file g c =
    let r = c.in-Ok.ensures.read in
    (long_whole (g.F.Folder.state c.args.folder.now).files c.args.name.now c.args.limit c.in-Ok.bytes.items r.0 r.1 (omega (arith, c.len.ensures, c.if-len-limit.true, c.in-Ok.bytes.ok)), (r.2, r.3))

pub returns-else-len-limit-clause-file : goal.returns-else-len-limit-clause-file
returns-else-len-limit-clause-file g c =
    let r = c.in-Ok.ensures.read in
    let short : length c.in-Ok.bytes.items ≤ c.args.limit = omega (arith, c.len.ensures, c.if-len-limit.false, c.in-Ok.bytes.ok) in
    (short_whole (g.F.Folder.state c.args.folder.now).files c.args.name.now c.args.limit c.in-Ok.bytes.items r.0 short, short, (r.2, r.3))
