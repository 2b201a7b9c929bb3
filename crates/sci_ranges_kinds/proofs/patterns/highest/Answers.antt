use Rattle.std.proofs.Common.{◌≡◌, ◌+◌, ℕ, refl, arith}
use Rattle.sci_base.proofs.FitLemmas.{span_at_most}
use Rattle.sci_ranges_kinds.proofs.patterns.highest.Goals as goal

pub overflow_add-result : goal.overflow_add-result
overflow_add-result c = omega (arith, c.lowest-least.ensures.bits, c.open_bits-open.ensures.few, span_at_most c.args.ty)

added : {a b x y : ℕ} → a ≡ x → b ≡ y → a + b ≡ x + y
added e f = rw (e, f) refl

pub returns : goal.returns
returns c = added c.lowest-least.ensures.value c.open_bits-open.ensures.value
