use Rattle.std.proofs.Common.{◌∙◌, ◌-◌, ◌<◌, length, ap, arith, rules, FitsSigned, w64}
use Rattle.std.specs.Prelude.{unsigned_abs}
use Rattle.std.proofs.lemmas.Int.{to_z-of_z}
use Rattle.sci_forms.specs.declared.Kind.TheVariants.{Extractor}
use Rattle.sci_forms.specs.Words.{param}
use Rattle.sci_kinds.specs.Asks.{Asks}
use Rattle.sci_ranges_base.specs.Cells.{valued}
use Rattle.sci_ranges_base.specs.Intervals.{range_at}
use Rattle.sci_ranges_kinds.proofs.Asked.{asks_of, one_or_more}
use Rattle.sci_ranges_kinds.proofs.rules.extractor.Goals as goal

pub overflow_sub-place : goal.overflow_sub-place
overflow_sub-place c =
    let a : Asks Extractor c.args.spec.now = asks_of Extractor c.args.spec.now c.requires.kind c.requires.is_typed in
    let within : c.args.e < length c.args.spec.now.params = omega (arith, a.3, c.requires.element) in
    let fits : FitsSigned w64 c.at.result = search rules in
    let named = c.unsigned_abs.ensures.value ∙ ap unsigned_abs (to_z-of_z w64 c.at.result fits ∙ c.at.ensures) in
    omega (arith, named, one_or_more (param c.args.spec.now c.args.e) ((a.4 c.args.e within).0))

pub returns : goal.returns
returns c =
    let fits : FitsSigned w64 c.at.result = search rules in
    let named = c.unsigned_abs.ensures.value ∙ ap unsigned_abs (to_z-of_z w64 c.at.result fits ∙ c.at.ensures) in
    c.handed_on.ensures ∙ ap (λ n. valued (range_at c.args.ins.now (n - 1))) named
