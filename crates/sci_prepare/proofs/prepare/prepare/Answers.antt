use Rattle.std.proofs.Common.{map, string_bytes}
use Rattle.sci_answers.specs.Answer.{no_memory}
use Rattle.sci_words.specs.Words.{asked_by}
use Rattle.sci_prepare.proofs.Looked.{spelled_reaches, spelled_counts, usage_counts}
use Rattle.sci_prepare.proofs.Defined.{prepared_code, stopped_prepares, unspelled_prepares}
use Rattle.sci_prepare.proofs.prepare.prepare.Goals as goal

pub returns-in-Ok-clause-lacks : goal.returns-in-Ok-clause-lacks
returns-in-Ok-clause-lacks g c = λ may.
    spelled_reaches (map string_bytes c.args.words.now) (g.F.Folder.state c.args.folder.now) (g.F.Folder.state c.for_command.new.folder) (asked_by c.in-Some.command) no_memory c.in-Some.ensures (c.in-Ok.ensures.looks.lacks may)

pub returns-in-None-clause-reaches : goal.returns-in-None-clause-reaches
returns-in-None-clause-reaches g c = λ a is. usage_counts (map string_bytes c.args.words.now) (g.F.Folder.state c.args.folder.now) a _ c.in-None.ensures is

pub returns-in-Ok-clause-reaches : goal.returns-in-Ok-clause-reaches
returns-in-Ok-clause-reaches g c = λ a is.
    spelled_counts (map string_bytes c.args.words.now) (g.F.Folder.state c.args.folder.now) (g.F.Folder.state c.for_command.new.folder) (asked_by c.in-Some.command) a _ c.in-Some.ensures
    (c.in-Ok.ensures.looks.reaches a is)

pub returns-in-Err-clause-reaches : goal.returns-in-Err-clause-reaches
returns-in-Err-clause-reaches g c = λ a is.
    let stopped = c.in-Err.ensures.looks.reaches a (c.stopped.ensures.answer a is) in
    spelled_counts (map string_bytes c.args.words.now) (g.F.Folder.state c.args.folder.now) (g.F.Folder.state c.for_command.new.folder) (asked_by c.in-Some.command) a _ c.in-Some.ensures
    (stopped.0, stopped.1, λ after done left. stopped.2 after done tt)

pub returns-in-Err-clause-prepared : goal.returns-in-Err-clause-prepared
returns-in-Err-clause-prepared g c = c.stopped.ensures.prepared _

pub returns-in-None-clause-coded : goal.returns-in-None-clause-coded
returns-in-None-clause-coded g c = unspelled_prepares _ _ _ _ c.in-None.ensures

pub returns-in-Ok-clause-coded : goal.returns-in-Ok-clause-coded
returns-in-Ok-clause-coded g c =
    prepared_code (map string_bytes c.args.words.now) (g.F.Folder.state c.args.folder.now) (g.F.Folder.state c.for_command.new.folder)
    (asked_by c.in-Some.command) c.in-Ok.prepared c.in-Some.ensures c.in-Ok.ensures.coded

pub returns-in-Err-clause-coded : goal.returns-in-Err-clause-coded
returns-in-Err-clause-coded g c =
    stopped_prepares (map string_bytes c.args.words.now) (g.F.Folder.state c.args.folder.now) (g.F.Folder.state c.for_command.new.folder)
    (asked_by c.in-Some.command) c.in-Err.stop c.stopped.result c.in-Some.ensures c.in-Err.ensures.coded c.stopped.ensures.answer c.stopped.ensures.lacks
