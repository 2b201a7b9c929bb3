use Rattle.std.proofs.Common.{◌∙◌, sym, ap, List, [], ℤ, ℕ, Option, rules, FitsSigned, w64}
use Rattle.std.proofs.lemmas.Int.{to_z-of_z}
use Rattle.std.specs.Prelude.{unwrap_or, unsigned_abs}
use Rattle.sci_forms.specs.Words.{out_type}
use Rattle.sci_forms.specs.Ports.{type_of}
use Rattle.sci_net.specs.Parts.{numbered}
use Rattle.sci_ranges_base.specs.declared.interval.Interval.{Interval}
use Rattle.sci_ranges_base.specs.Intervals.{whole}
use Rattle.sci_ranges.specs.Columns.{spanned}
use Rattle.sci_ranges_find.proofs.Entering.{spanned_some}
use Rattle.sci_ranges_find.proofs.reads.sensed.Goals as goal

pub returns-in-Some : goal.returns-in-Some
returns-in-Some c =
    let w = whole (out_type c.args.spec.now) in
    let fits : FitsSigned w64 c.at.result = search rules in
    let named = c.unsigned_abs.ensures.value ∙ ap unsigned_abs (to_z-of_z w64 c.at.result fits ∙ c.at.ensures) in
    sym (ap (λ (o : Option Interval). unwrap_or o w) (ap spanned (sym c.column-values.ensures) ∙ spanned_some c.column-values.result.now c.in-Some.range c.in-Some.ensures.some))
    ∙ ap (λ (k : ℕ). unwrap_or (spanned (numbered [] c.args.inputs.now k)) w) named

pub returns-in-None : goal.returns-in-None
returns-in-None c =
    let w = whole (out_type c.args.spec.now) in
    let fits : FitsSigned w64 c.at.result = search rules in
    let named = c.unsigned_abs.ensures.value ∙ ap unsigned_abs (to_z-of_z w64 c.at.result fits ∙ c.at.ensures) in
    c.whole.ensures
    ∙ (ap whole (c.kind_of_type.ensures ∙ ap type_of c.port.ensures)
    ∙ (sym (ap (λ (vs : List ℤ). unwrap_or (spanned vs) w) (sym c.column-values.ensures ∙ c.in-None.ensures.none))
    ∙ ap (λ (k : ℕ). unwrap_or (spanned (numbered [] c.args.inputs.now k)) w) named))
