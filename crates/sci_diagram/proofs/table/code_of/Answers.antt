use Rattle.std.proofs.Common.{length, refl, arith}
use Rattle.sci_diagram.proofs.Placing.{coded, uncoded}
use Rattle.sci_diagram.proofs.table.code_of.Goals as goal

pub returns-in-2-clause-code : goal.returns-in-2-clause-code
returns-in-2-clause-code c = coded c.args.name.now c.as_bytes-bytes.result.now 2 _ c.as_bytes-bytes.ensures.value c.in-2.is c.code_of_two.ensures.code

pub returns-in-3-clause-code : goal.returns-in-3-clause-code
returns-in-3-clause-code c = coded c.args.name.now c.as_bytes-bytes.result.now 3 _ c.as_bytes-bytes.ensures.value c.in-3.is c.code_of_three.ensures.code

pub returns-in-4-clause-code : goal.returns-in-4-clause-code
returns-in-4-clause-code c = coded c.args.name.now c.as_bytes-bytes.result.now 4 _ c.as_bytes-bytes.ensures.value c.in-4.is c.code_of_four.ensures.code

pub returns-in-5-clause-code : goal.returns-in-5-clause-code
returns-in-5-clause-code c = coded c.args.name.now c.as_bytes-bytes.result.now 5 _ c.as_bytes-bytes.ensures.value c.in-5.is c.code_of_five.ensures.code

pub returns-in-6-clause-code : goal.returns-in-6-clause-code
returns-in-6-clause-code c = coded c.args.name.now c.as_bytes-bytes.result.now 6 _ c.as_bytes-bytes.ensures.value c.in-6.is c.code_of_six.ensures.code

pub returns-in_default-clause-code : goal.returns-in_default-clause-code
returns-in_default-clause-code c =
    uncoded c.args.name.now c.as_bytes-bytes.result.now (length c.as_bytes-bytes.result.now) c.as_bytes-bytes.ensures.value refl (λ e. omega (arith, e, c.in_default)) (λ e. omega (arith, e, c.in_default)) (λ e. omega (arith, e, c.in_default))
    (λ e. omega (arith, e, c.in_default)) (λ e. omega (arith, e, c.in_default))
