use Rattle.std.proofs.Common.{◌∙◌, Some, ap, sym, subst}
use Rattle.sci_ranges_rules.specs.Patterns.{InType, patterns_of, numbers_of, and_patterns}
use Rattle.sci_ranges_rules.proofs.Patterned.{patterns_in_type}
use Rattle.sci_ranges_kinds.proofs.Shifting.{one_in_type}
use Rattle.sci_ranges_kinds.proofs.bitwise.kept_bits.Goals as goal

pub and_patterns-joined-requires-clause-p : goal.and_patterns-joined-requires-clause-p
and_patterns-joined-requires-clause-p c = subst (InType c.args.ty) (sym c.patterns_of-patterns.ensures) (patterns_in_type c.args.ty c.in_ok-i.i)

pub and_patterns-joined-requires-clause-q : goal.and_patterns-joined-requires-clause-q
and_patterns-joined-requires-clause-q c = subst (InType c.args.ty) (sym c.one_pattern-others.ensures) (one_in_type c.args.ty c.args.bits c.requires)

pub returns : goal.returns
returns c =
    let t = c.args.ty in
    rw c.in_ok-i.was
    (ap Some (c.numbers_of.ensures
    ∙ ap (numbers_of t) (c.and_patterns-joined.ensures ∙ ap (λ p. and_patterns t p c.one_pattern-others.result) c.patterns_of-patterns.ensures
    ∙ ap (and_patterns t (patterns_of t c.in_ok-i.i)) c.one_pattern-others.ensures)))
