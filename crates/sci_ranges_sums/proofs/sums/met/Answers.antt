use Rattle.std.proofs.Common.{◌≡◌, ap, ◌∙◌, arith, to_z, of_z}
use Rattle.std.specs.Int.{w128}
use Rattle.std.proofs.lemmas.Int.{ints, clamps}
use Rattle.sci_forms.proofs.TestLemmas.{int_le_told}
use Rattle.sci_ranges_base.specs.declared.wide.Wide.{Wide}
use Rattle.sci_ranges_base.specs.Intervals.{summands}
use Rattle.sci_ranges_base.specs.Wide.{numbers}
use Rattle.sci_ranges_base.proofs.Ends.{ends_within}
use Rattle.sci_ranges_sums.proofs.Totals.{ends_along}
use Rattle.sci_ranges_sums.proofs.sums.met.Goals as goal

pub returns-then-least-greatest-clause-ends : goal.returns-then-least-greatest-clause-ends
returns-then-least-greatest-clause-ends c =
    let e : c.new.result.least ≡ c.max-least.result = ap (λ (w : Wide). w.least) c.new.ensures ∙ omega (arith, ints) in
    let f : c.new.result.greatest ≡ c.min-greatest.result = ap (λ (w : Wide). w.greatest) c.new.ensures ∙ omega (arith, ints) in
    let o = int_le_told (to_z w128 (of_z w128 c.max-least.result)) (to_z w128 (of_z w128 c.min-greatest.result)) c.if-least-greatest.true in
    ends_along summands (numbers c.args.one) (numbers c.new.result) c.requires
    (ends_within (numbers c.args.one) (numbers c.new.result) (omega (arith, ints, clamps)) (omega (arith, ints)) (omega (arith, ints, clamps)))
