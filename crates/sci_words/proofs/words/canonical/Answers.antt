use Rattle.std.proofs.Common.{◌≡◌, ◌<◌, ◌^◌, rules, arith, sym}
use Rattle.std.proofs.lemmas.Fmt.{parse-decimal}
use Rattle.std.proofs.lemmas.Cmp.{nat_list_eq_equiv}
use Rattle.sci_words.proofs.words.canonical.Goals as goal

pub returns-in-Err-clause-none : goal.returns-in-Err-clause-none
returns-in-Err-clause-none c = λ n small is.
    let fits : n < 2 ^ 64 = omega (arith, small, c.ranges.most.fits) in
    absurd (cc (parse-decimal 64 n _ _ fits fits is c.parse.ensures.value.0))

pub returns-else-eq-clause-none : goal.returns-else-eq-clause-none
returns-else-eq-clause-none c = λ n small is.
    let fits : n < 2 ^ 64 = omega (arith, small, c.ranges.most.fits) in
    let read = parse-decimal 64 n _ _ fits fits is c.parse.ensures.value.0 in
    let text : c.format.result.now ≡ c.args.text.now = cc (is, read) in
    let same = nat_list_eq_equiv.refl c.args.text.now in
    absurd (cc (text, same, c.eq.ensures, c.if-eq.false))

pub returns-then-n-most-clause-none : goal.returns-then-n-most-clause-none
returns-then-n-most-clause-none c = λ n small is.
    let fits : n < 2 ^ 64 = omega (arith, small, c.ranges.most.fits) in
    let read = parse-decimal 64 n _ _ fits fits is c.parse.ensures.value.0 in
    let same : c.in-Ok.n ≡ n = cc (read, c.in-Ok.is) in
    omega (arith, same, small, c.if-n-most.true)
