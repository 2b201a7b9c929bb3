-- What `ccode` writes is the text of the program that is defined.
use Rattle.std.proofs.Common.{ℕ, List, inl, inr}
use Rattle.sci_io.specs.Files.{FolderState}
use Rattle.sci_io.specs.Taken.{SinkState}
use Rattle.sci_answers.specs.Answer.{no_memory}
use Rattle.sci_deliver.specs.Deliver.{Delivers}
use Rattle.sci_commands.specs.Defined.{WritesDefined}
use Rattle.sci_prepare.specs.Defined.{PreparesDefined}
use Rattle.sci_answers.specs.declared.prepared.Prepared.{Prepared}

-- and what is written
pub writes_defined : (p : Prepared) (words : List (List ℕ)) (old new : FolderState) (out out' err err' : SinkState) (s : ℕ)
    → PreparesDefined words old new p → Delivers p out out' err err' s → WritesDefined words old new out out' err err' s
writes_defined p words old new out out' err err' s prepares (inl (a, is, w)) = record {
  each = λ d words_are.
      let reached = (prepares.each d words_are).reaches a is in
      record { bytes = reached.0; answer = (a, reached.1, w) };
}
writes_defined p words old new out out' err err' s prepares (inr (may, w)) = record {
  each = λ d words_are.
      let lacked = (prepares.each d words_are).lacks may in
      record { bytes = lacked.0; answer = (no_memory, lacked.1, w) };
}
