use Rattle.std.proofs.Common.{true, drop, option_and_then, sym, ap, ◌∙◌, arith, take_all, length-drop}
use Rattle.fast_float.specs.Text.{scan}
use Rattle.serde_json.specs.Find.{as_i64}
use Rattle.serde_json.specs.Read.{number_of, number_from}
use Rattle.sci_json.proofs.Numbers.{number_of-minus, number_of-plain}
use Rattle.sci_json.proofs.document.number.whole_number.Goals as goal

pub returns-then-has_minus : goal.returns-then-has_minus
returns-then-has_minus c =
    let s = c.as_bytes-bytes.result.now in
    let rest = take_all _ (drop 1 s) (omega (arith, length-drop 1 s)) in
    c.negative.ensures ∙ ap (option_and_then as_i64) (ap (λ t. number_from true (scan t)) rest ∙ sym (number_of-minus s (sym c.if-has_minus.ensures.value)) ∙ ap number_of c.as_bytes-bytes.ensures.value)

pub returns-else-has_minus : goal.returns-else-has_minus
returns-else-has_minus c =
    let s = c.as_bytes-bytes.result.now in
    c.unsigned.ensures ∙ ap (option_and_then as_i64) (sym (number_of-plain s (sym c.if-has_minus.ensures.value)) ∙ ap number_of c.as_bytes-bytes.ensures.value)
