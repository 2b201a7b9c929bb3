use Rattle.std.proofs.Common.{◌≡◌, ◌-◌, get_or, length, take, ap, sym, subst, ◌∙◌, arith, take_all}
use Rattle.std.proofs.lemmas.Int.Digits.{digits_more, digits_value_more}
use Rattle.std.specs.Char.{digit_value}
use Rattle.std.specs.Str.Parse.{AllDigits, digits_value}
use Rattle.std.proofs.lemmas.Str.{digit_value_digit}
use Rattle.sci_json.proofs.Numbers.{not_empty, no_overflow, at_most_eighteen}
use Rattle.sci_json.proofs.document.number.few_digits.Goals as goal

pub overflow_mul-value : goal.overflow_mul-value
overflow_mul-value c = let h = no_overflow c.args.bytes.now c.loop-byte.byte-index c.loop-byte-test.true c.if-bytes-gt18.false c.loop-byte.invariant.digits in omega arith

pub overflow_add-value : goal.overflow_add-value
overflow_add-value c = let h = no_overflow c.args.bytes.now c.loop-byte.byte-index c.loop-byte-test.true c.if-bytes-gt18.false c.loop-byte.invariant.digits in omega arith

pub loop-byte-preserved : goal.loop-byte-preserved
loop-byte-preserved c =
    let bs = c.args.bytes.now in
    let i = c.loop-byte.byte-index in
    let digit : digit_value (get_or bs i 0) ≡ get_or bs i 0 - 48 = let d = digit_value_digit (get_or bs i 0) (omega arith, omega arith) in omega arith in
    record {
      digits = digits_more 10 bs i c.loop-byte-test.true c.loop-byte.invariant.digits (omega arith);
      value = let more = digits_value_more 10 bs i c.loop-byte-test.true in let was = c.loop-byte.invariant.value in omega arith;
    }

pub returns : goal.returns
returns c =
    let bs = c.args.bytes.now in
    let all : take c.loop-byte.byte-index bs ≡ bs = take_all c.loop-byte.byte-index bs c.loop-byte-test.false in
    let digits : AllDigits 10 bs = subst (AllDigits 10) all c.loop-byte.invariant.digits in
    let value : c.loop-byte.value ≡ digits_value 10 bs = c.loop-byte.invariant.value ∙ ap (digits_value 10) all in
    ((not_empty (length bs) (sym c.is_empty.ensures ∙ c.if-is_empty.false), digits), value, let below = at_most_eighteen bs c.if-bytes-gt18.false digits in omega arith)
