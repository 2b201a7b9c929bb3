use Rattle.std.proofs.Common.{◌∙◌, Some, ap, sym, subst}
use Rattle.sci_ranges_rules.specs.Patterns.{InType, patterns_of, numbers_of, or_patterns}
use Rattle.sci_ranges_rules.proofs.Patterned.{patterns_in_type}
use Rattle.sci_ranges_kinds.proofs.Shifting.{one_in_type}
use Rattle.sci_ranges_kinds.proofs.bitwise.set_bits.Goals as goal

pub or_patterns-joined-requires-clause-p : goal.or_patterns-joined-requires-clause-p
or_patterns-joined-requires-clause-p c = subst (InType c.args.ty) (sym c.patterns_of-patterns.ensures) (patterns_in_type c.args.ty c.in_ok-i.i)

pub or_patterns-joined-requires-clause-q : goal.or_patterns-joined-requires-clause-q
or_patterns-joined-requires-clause-q c = subst (InType c.args.ty) (sym c.one_pattern-others.ensures) (one_in_type c.args.ty c.args.bits c.requires)

pub returns : goal.returns
returns c =
    let t = c.args.ty in
    rw c.in_ok-i.was
    (ap Some (c.numbers_of.ensures
    ∙ ap (numbers_of t) (c.or_patterns-joined.ensures ∙ ap (λ p. or_patterns t p c.one_pattern-others.result) c.patterns_of-patterns.ensures
    ∙ ap (or_patterns t (patterns_of t c.in_ok-i.i)) c.one_pattern-others.ensures)))
