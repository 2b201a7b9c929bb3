use Rattle.std.proofs.Common.{rules, ◌≡◌, ap, ◌∙◌, arith, FitsSigned, w64, to_z, of_z}
use Rattle.std.specs.Int.{w128}
use Rattle.std.proofs.lemmas.Int.{ints, clamps}
use Rattle.sci_forms.proofs.TestLemmas.{int_le_told}
use Rattle.sci_ranges_base.specs.declared.wide.Wide.{Wide}
use Rattle.sci_ranges_base.specs.Wide.{numbers}
use Rattle.sci_ranges_base.proofs.Ends.{ends_within}
use Rattle.sci_ranges_base.proofs.wide.Wide.met.Goals as goal

pub returns-then-least-greatest-clause-ends : goal.returns-then-least-greatest-clause-ends
returns-then-least-greatest-clause-ends c =
    let lo : FitsSigned w64 c.args.other.least = search rules in
    let hi : FitsSigned w64 c.args.other.greatest = search rules in
    let e : c.new.result.least ≡ c.max-least.result = ap (λ (w : Wide). w.least) c.new.ensures ∙ omega (arith, ints) in
    let f : c.new.result.greatest ≡ c.min-greatest.result = ap (λ (w : Wide). w.greatest) c.new.ensures ∙ omega (arith, ints) in
    let o = int_le_told (to_z w128 (of_z w128 c.max-least.result)) (to_z w128 (of_z w128 c.min-greatest.result)) c.if-least-greatest.true in
    ends_within c.args.other (numbers c.new.result) (omega (arith, ints, clamps)) (omega (arith, ints)) (omega (arith, ints, clamps))
