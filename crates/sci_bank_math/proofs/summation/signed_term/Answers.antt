use Rattle.std.proofs.Common.{◌≡◌, ◌∙◌, sym, subst, arith, rules, FitsSigned, w64, to_z, of_z, pos, ◌-ℤ◌, ◌+◌, neg_ℤ}
use Rattle.std.proofs.lemmas.Int.{ints, to_z-of_z}
use Rattle.sci_base.specs.Fit.{InRange}
use Rattle.sci_forms.specs.Words.{out_type, param, size}
use Rattle.sci_kinds.specs.Table.{input}
use Rattle.sci_bank_math.proofs.SumLemmas.{small, signed_plus, signed_minus}
use Rattle.sci_bank_math.proofs.summation.signed_term.Goals as goal

pub overflow_sub-result : goal.overflow_sub-result
overflow_sub-result c =
    let b = small (out_type c.args.spec.now) c.term-u.result c.term-u.ensures.in_range in
    let low = b.0 in
    let high = b.1 in
    omega (arith, ints)

pub returns-then-is_equal : goal.returns-then-is_equal
returns-then-is_equal c =
    let fits : FitsSigned w64 c.term-u.result = search rules in
    let fits_sign : FitsSigned w64 c.param.result = search rules in
    let sign = to_z-of_z w64 c.param.result fits_sign ∙ c.param.ensures in
    let told = rw sign at (sym c.is_equal.ensures ∙ c.if-is_equal.true) in
    let value = to_z-of_z w64 c.term-u.result fits ∙ c.term-u.ensures.value in
    let in_range = subst (InRange (out_type c.args.spec.now)) c.term-u.ensures.value c.term-u.ensures.in_range in
    let p = signed_plus (out_type c.args.spec.now) (param c.args.spec.now (c.args.k + 1)) (input (size c.args.spec.now) c.args.ins.now c.args.k c.args.at) _ (c.requires.typed.asks.4 c.args.k c.requires.port) told in_range value in
    record { value = p.0; low = p.1; high = p.2 }

pub returns-else-is_equal : goal.returns-else-is_equal
returns-else-is_equal c =
    let b = small (out_type c.args.spec.now) c.term-u.result c.term-u.ensures.in_range in
    let low = b.0 in
    let high = b.1 in
    let fits_sign : FitsSigned w64 c.param.result = search rules in
    let sign = to_z-of_z w64 c.param.result fits_sign ∙ c.param.ensures in
    let told = rw sign at (sym c.is_equal.ensures ∙ c.if-is_equal.false) in
    let same = c.term-u.ensures.value in
    let value : to_z w64 (of_z w64 (pos 0 -ℤ to_z w64 (of_z w64 c.term-u.result))) ≡ neg_ℤ (input (size c.args.spec.now) c.args.ins.now c.args.k c.args.at) = omega (arith, ints) in
    let in_range = subst (InRange (out_type c.args.spec.now)) c.term-u.ensures.value c.term-u.ensures.in_range in
    let p = signed_minus (out_type c.args.spec.now) (param c.args.spec.now (c.args.k + 1)) (input (size c.args.spec.now) c.args.ins.now c.args.k c.args.at) _ (c.requires.typed.asks.4 c.args.k c.requires.port) told in_range value in
    record { value = p.0; low = p.1; high = p.2 }
