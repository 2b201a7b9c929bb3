use Rattle.std.proofs.Common.{◌∙◌, ap, cond, nat_eq, rules, FitsSigned, w64}
use Rattle.std.proofs.lemmas.Int.{to_z-of_z}
use Rattle.sci_base.specs.declared.Ty.{Ty}
use Rattle.sci_ranges_rules.specs.Words.{mirrored, opposite, related}
use Rattle.sci_forms.specs.Words.{param}
use Rattle.sci_ranges_choices.proofs.numbers.compared.Goals as goal

pub returns : goal.returns
returns c =
    let fits : FitsSigned w64 c.relation_of-op.result = search rules in
    let fits_known : FitsSigned w64 c.known_relation.result = search rules in
    let known = to_z-of_z w64 c.known_relation.result fits_known ∙ c.known_relation.ensures in
    let op = to_z-of_z w64 c.relation_of-op.result fits ∙ (c.relation_of-op.ensures ∙ ap (λ z. cond (nat_eq c.args.k 0) z (mirrored z)) known) in
    let first = cond c.args.holds (param c.args.spec.now 0) (opposite (param c.args.spec.now 0)) in
    c.related.ensures
    ∙ (ap (λ z. related z c.in_type.result c.args.j) op ∙ ap (λ (t : Ty). related (cond (nat_eq c.args.k 0) first (mirrored first)) t c.args.j) c.in_type.ensures)
