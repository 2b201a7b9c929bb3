use Rattle.std.proofs.Common.{length, arith}
use Rattle.sci_vcd.proofs.Links.{last_some}
use Rattle.sci_vcd.proofs.draft.Draft.last.Goals as goal

pub returns-else-count-eq0 : goal.returns-else-count-eq0
returns-else-count-eq0 c =
    let d = c.args.self.now in
    last_some (length d.signals.items) c.len-count.result d.entries.items c.index.result.now (omega (arith, c.len-count.ensures, d.entries.ok.0)) (omega (arith, c.if-count-eq0.false)) c.index.ensures
