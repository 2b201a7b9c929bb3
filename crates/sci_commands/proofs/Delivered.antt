-- What a prepared command writes is what the call promises.
use Rattle.std.proofs.Common.{ℕ, List, inl, inr, arith}
use Rattle.sci_bank.specs.Bank.{Meaning}
use Rattle.sci_io.specs.Files.{FolderState}
use Rattle.sci_io.specs.Taken.{SinkState}
use Rattle.sci_answers.specs.Answer.{Answer, IsDone, no_memory}
use Rattle.sci_answers.specs.Coming.{Reaches, ReachesCounted}
use Rattle.sci_answers.specs.Prepared.{IsAnswerOf, MayLack, LeavesBanks}
use Rattle.sci_deliver.specs.Deliver.{Delivers}
use Rattle.sci_commands.specs.Headline.{Meets}
use Rattle.sci_answers.specs.declared.prepared.Prepared.{Prepared}
use Rattle.sci_commands.proofs.Causes.{met_by}
use Rattle.sci_answers.proofs.Ends.{undone}

pub met_either : (p : Prepared) (words : List (List ℕ)) (old new : FolderState) (out out' err err' : SinkState) (before after : List Meaning) (s : ℕ) → ((a : Answer) → IsAnswerOf p a → ReachesCounted words old new a (LeavesBanks p before))
    → (MayLack p → Reaches words old new no_memory) → (IsDone s → LeavesBanks p before after) → Delivers p out out' err err' s → Meets words old new out out' err err' after s
met_either p words old new out out' err err' before after s reaches lacks left (inl (a, is, w)) =
    let reached = reaches a is in
    met_by words old new out out' err err' after s reached.0 a reached.1 w (λ answered done. reached.2 after answered (left done))
met_either p words old new out out' err err' before after s reaches lacks left (inr (may, w)) =
    let lacked = lacks may in
    met_by words old new out out' err err' after s lacked.0 no_memory lacked.1 w (λ answered done. absurd (undone 5 (omega arith) (omega arith) answered))
