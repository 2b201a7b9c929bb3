use Rattle.std.proofs.Common.{◌≡◌, ℕ, List, ◌++◌, drop, sym, ap, ap₂, ◌∙◌, arith}
use Rattle.std.proofs.lemmas.List.{drop_all}
use Rattle.sci_vcd.proofs.Bits.{eight_fours}
use Rattle.sci_vcd.proofs.spell.eight_into.Goals as goal

pub returns-clause-text : goal.returns-clause-text
returns-clause-text c =
    let new = c.four_before.new.line in
    let start : c.four_before.result ≡ 0 = omega (arith, c.four_before.ensures.start, c.four_before-at.ensures.start) in
    let none = drop_all 8 c.args.text.now (omega arith) in
    let low = c.four_before-at.ensures.text ∙ ap₂ (λ (x y : List ℕ). x ++ y) c.four_digits.ensures none in
    sym (ap (λ (k : ℕ). drop k new) start)
    ∙ (c.four_before.ensures.text ∙ (ap₂ (λ (x y : List ℕ). x ++ y) c.four_digits-2.ensures low ∙ eight_fours c.args.n))
