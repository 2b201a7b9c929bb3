-- One answer is right.
use Rattle.std.specs.Prelude.{◌≡◌, Result}
use Rattle.sci_base.specs.Plain.{Violation}
use Rattle.sci_infer.specs.declared.values.Resolution.{Resolution}
use Rattle.sci_infer.specs.declared.values.Resolution.TheVariants.{Conflict, Open, Values}
use Rattle.sci_net.specs.Parts.{Parts}
use Rattle.sci_infer.specs.Answer.{IsAnswer}

abbrev pub IsSameVerdict : Resolution → Resolution → Type 0
IsSameVerdict (Conflict i s) (Conflict j r) = (i ≡ j) × (s.least ≡ r.least) × (s.greatest ≡ r.greatest)
IsSameVerdict (Conflict i s) (Open j) = ⊥
IsSameVerdict (Conflict i s) (Values ws) = ⊥
IsSameVerdict (Open i) (Conflict j r) = ⊥
IsSameVerdict (Open i) (Open j) = i ≡ j
IsSameVerdict (Open i) (Values ws) = ⊥
IsSameVerdict (Values vs) (Conflict j r) = ⊥
IsSameVerdict (Values vs) (Open j) = ⊥
IsSameVerdict (Values vs) (Values ws) = vs.items ≡ ws.items

abbrev pub OneAnswer : Type 0
OneAnswer = (n : Parts) (o q : Result Parts Violation) → IsAnswer n o → IsAnswer n q → o ≡ q
