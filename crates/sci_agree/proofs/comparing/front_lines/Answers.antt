use Rattle.std.proofs.Common.{rules, ℕ, ◌+◌, take, get_or, ap, ◌∙◌, arith}
use Rattle.std.proofs.lemmas.List.{get_or_default}
use Rattle.sci_agree.specs.Lines.{lines_of}
use Rattle.sci_agree.proofs.Taking.{few_within, lines_next}
use Rattle.sci_agree.proofs.comparing.front_lines.Goals as goal

pub overflow_add-lines : goal.overflow_add-lines
overflow_add-lines c =
    let few = few_within c.loop-byte.byte-index c.args.front.now (omega (arith, c.loop-byte-test.true)) in search (rules, few)

pub loop-byte-preserved : goal.loop-byte-preserved
loop-byte-preserved c =
    let front = c.args.front.now in
    let i = c.loop-byte.byte-index in
    let b : ℕ = get_or front i 0 in
    ap (λ (n : ℕ). n + c.lines_ended-ended.result) c.loop-byte.invariant
    ∙ (ap (λ (n : ℕ). lines_of (take i front) + n) c.lines_ended-ended.ensures.value
    ∙ lines_next front i b c.loop-byte-test.true (get_or_default front i 0 b c.loop-byte-test.true))
