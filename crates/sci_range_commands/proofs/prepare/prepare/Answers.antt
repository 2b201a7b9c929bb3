use Rattle.std.proofs.Common.{map, string_bytes}
use Rattle.sci_range_commands.proofs.Looked.{spelled_reaches, usage_reaches}
use Rattle.sci_range_commands.proofs.prepare.prepare.Goals as goal

pub returns-in-None-clause-reaches : goal.returns-in-None-clause-reaches
returns-in-None-clause-reaches g c = λ a is. usage_reaches (map string_bytes c.args.words.now) (g.F.Folder.state c.args.folder.now) a c.in-None.ensures is

pub returns-in-Ok-clause-reaches : goal.returns-in-Ok-clause-reaches
returns-in-Ok-clause-reaches g c = λ a is.
    spelled_reaches (map string_bytes c.args.words.now) c.in-Some.file.now c.in-Some.inputs_file.now (g.F.Folder.state c.args.folder.now) (g.F.Folder.state c.for_files.new.folder) a c.in-Some.ensures (c.in-Ok.ensures.looks a is)

pub returns-in-Err-clause-reaches : goal.returns-in-Err-clause-reaches
returns-in-Err-clause-reaches g c = λ a is.
    spelled_reaches (map string_bytes c.args.words.now) c.in-Some.file.now c.in-Some.inputs_file.now (g.F.Folder.state c.args.folder.now) (g.F.Folder.state c.for_files.new.folder) a c.in-Some.ensures
    (c.in-Err.ensures.looks a (c.stopped.ensures a is))
