-- What the steps of writing leave on a sink.
use Rattle.std.specs.Prelude.{ℕ, ◌≡◌, ◌≢◌, ◌⊎◌, List, [], Result, Ok, Err}
use Rattle.sci_io.specs.Taken.{SinkState}
use Rattle.sci_answers.specs.Answer.{Answer}
use Rattle.sci_answers.specs.Written.{Took, Cut, Written}
use Rattle.sci_range_commands.specs.Prepared.{IsAnswerOf}
use Rattle.sci_range_commands.specs.declared.prepare.Prepared.{Prepared}

-- a text was written and flushed, or the sink failed
abbrev pub Gives : {T E : Type 0} → SinkState → SinkState → List ℕ → Result T E → Type 0
Gives old new text (Ok _) = Took old new text
Gives old new text (Err _) = Cut old new text

-- some text was said on err with this status, or err failed
abbrev pub Said : ℕ → List ℕ → SinkState → SinkState → ℕ → Type 0
Said status text err err' answer = (text ≢ []) × (((answer ≡ status) × Took err err' text) ⊎ ((answer ≡ 4) × Cut err err' text))

-- the answer of what a call comes to is written
abbrev pub Delivers : Prepared → SinkState → SinkState → SinkState → SinkState → ℕ → Type 0
Delivers p out out' err err' status = (a : Answer) × IsAnswerOf p a × Written a out out' err err' status
