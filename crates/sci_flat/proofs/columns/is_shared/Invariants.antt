use Rattle.std.proofs.Common.{ℕ, ◌<◌}
use Rattle.sci_flat.specs.Refused.{ShareColumn}
use Rattle.sci_flat.specs.Wired.{spec_at}
use Rattle.sci_flat.proofs.columns.is_shared.Given as goal

abbrev pub invariant-loop-earlier : goal.invariant-loop-earlier
invariant-loop-earlier l = (c : ℕ) → c < l.earlier → ShareColumn (spec_at l.specs c) (spec_at l.specs l.block) → ⊥
