-- What is written of a verdict.
use Rattle.std.proofs.Common.{◌≡◌, ◌≢◌, ℕ, [], inl, inr}
use Rattle.sci_io.specs.Taken.{SinkState}
use Rattle.sci_agree.specs.declared.verdict.Verdict.{Verdict}
use Rattle.sci_agree.specs.declared.verdict.Verdict.TheVariants.{Yes, No}
use Rattle.sci_answers.specs.Answer.{write_fault_line}
use Rattle.sci_deliver.specs.Deliver.{Said}
use Rattle.sci_answers.specs.Judge.{verdict_line, verdict_status, judged}
use Rattle.sci_answers.specs.Written.{Took, Cut, Written}
use Rattle.sci_deliver.proofs.Giving.{none_given, fault_told}

verdict_some : (v : Verdict) → verdict_line v ≢ []
unfolding verdict_line
verdict_some (Yes lines) = λ e. absurd (cc e)
verdict_some (No line) = λ e. absurd (cc e)

pub verdict_written : (v : Verdict) (out out' err : SinkState) (status : ℕ) → status ≡ verdict_status v → Took out out' (verdict_line v) → Written (judged v) out out' err err status
verdict_written v out out' err status is h = inl (is, inr (verdict_some v, h), none_given err)

pub verdict_cut : (v : Verdict) (out out' err err' : SinkState) (answer : ℕ) → Cut out out' (verdict_line v) → Said 4 write_fault_line err err' answer → Written (judged v) out out' err err' answer
verdict_cut v out out' err err' answer h said =
    let told = fault_told err err' answer said in
    inr (inl (told.0, (verdict_some v, h), told.1))
