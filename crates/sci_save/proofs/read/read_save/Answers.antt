use Rattle.std.proofs.Common.{subst}
use Rattle.sci_reaction.specs.Memory.{Columns}
use Rattle.sci_save.specs.Bounds.{AreShort}
use Rattle.sci_save.specs.Answers.{Answers}
use Rattle.sci_save.proofs.Blaming.{accepts, blames}
use Rattle.sci_save.proofs.BlockLines.{columns_short}
use Rattle.sci_save.proofs.read.read_save.Goals as goal

pub returns-clause-answer : goal.returns-clause-answer
returns-clause-answer c = subst (λ (i : Columns). Answers c.args.net.now i c.args.bytes.now c.answer.result) c.columns-columns.ensures c.answer.ensures

pub returns-clause-saved : goal.returns-clause-saved
returns-clause-saved c m s =
    let a = subst (λ (i : Columns). Answers c.args.net.now i c.args.bytes.now c.answer.result) c.columns-columns.ensures c.answer.ensures in
    accepts c.args.net.now c.args.ins.now c.args.bytes.now c.answer.result c.well_formed-2.ensures (subst AreShort c.columns-columns.ensures (columns_short c.columns-columns.result.now)) a m s

pub returns-clause-line : goal.returns-clause-line
returns-clause-line c k b =
    let a = subst (λ (i : Columns). Answers c.args.net.now i c.args.bytes.now c.answer.result) c.columns-columns.ensures c.answer.ensures in
    blames c.args.net.now c.args.ins.now c.args.bytes.now c.answer.result a k b
