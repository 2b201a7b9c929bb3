use Rattle.std.proofs.Common.{rules, ap, ◌∙◌, arith, FitsSigned, w64}
use Rattle.std.proofs.lemmas.Int.{ints}
use Rattle.sci_ranges_base.specs.declared.wide.Wide.{Wide}
use Rattle.sci_ranges_base.specs.Wide.{numbers}
use Rattle.sci_ranges_base.proofs.Ends.{word_ends}
use Rattle.sci_ranges_base.proofs.wide.Wide.of.Goals as goal

pub returns-clause-ends : goal.returns-clause-ends
returns-clause-ends c =
    let least : FitsSigned w64 c.args.i.least = search rules in
    let greatest : FitsSigned w64 c.args.i.greatest = search rules in
    word_ends c.args.i (numbers c.new.result) least greatest (ap (λ (w : Wide). w.least) c.new.ensures ∙ omega (arith, ints))
    (ap (λ (w : Wide). w.greatest) c.new.ensures ∙ omega (arith, ints))
