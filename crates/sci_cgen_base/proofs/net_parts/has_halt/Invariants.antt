-- What is left decides.
use Rattle.std.proofs.Common.{◌≡◌, drop}
use Rattle.std.specs.List.{list_any}
use Rattle.sci_forms.specs.Form.{is_halt}
use Rattle.sci_cgen_base.proofs.net_parts.has_halt.Given as goal

abbrev pub invariant-loop-at : goal.invariant-loop-at
invariant-loop-at l = list_any (λ s. is_halt s.kind) (drop l.at l.net.specs) ≡ list_any (λ s. is_halt s.kind) l.net.specs
