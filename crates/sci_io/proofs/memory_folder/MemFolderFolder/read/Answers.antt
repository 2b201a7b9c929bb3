use Rattle.std.proofs.Common.{rules, ◌≡◌, ◌++◌, ◌∷◌, [], Some, map, inl, inr}
use Rattle.std.specs.Prelude.{string_bytes}
use Rattle.sci_io.specs.Files.{file_named}
use Rattle.sci_io.specs.Memory.{files_of}
use Rattle.sci_io.proofs.Fronts.{reads_front}
use Rattle.sci_io.proofs.memory_folder.MemFolderFolder.read.Goals as goal

pub returns-in-Some-clause-read : goal.returns-in-Some-clause-read
returns-in-Some-clause-read c =
    let found : file_named (files_of c.args.self.now) c.args.name.now ≡ Some c.in-Some.bytes.now = search rules in
    let asked = map string_bytes c.args.self.now.asked.items in
    let now = map string_bytes c.remember.new.asked.items in
    let said : now ≡ asked ++ c.args.name.now ∷ [] = search rules in
    reads_front (files_of c.args.self.now) asked now c.args.self.now.faults c.args.name.now c.args.limit c.in-Some.bytes.now c.front.result found said c.front.ensures

pub returns-then-is_err-clause-want : goal.returns-then-is_err-clause-want
returns-then-is_err-clause-want c = λ e. inl (search rules)

pub returns-in-Some-clause-want : goal.returns-in-Some-clause-want
returns-in-Some-clause-want c = λ e. inr (search rules)
