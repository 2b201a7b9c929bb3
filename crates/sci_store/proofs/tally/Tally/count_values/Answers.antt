use Rattle.std.proofs.Common.{◌≡◌, ◌+◌, ◌≤◌, ℕ, zero, suc, min, length, ap, ◌∙◌, arith}
use Rattle.sci_store.specs.Tally.{lines_after}
use Rattle.sci_store.proofs.tally.Tally.count_values.Goals as goal

lines_are : (lines n : ℕ) → lines ≤ 18446744073709551615 → lines_after lines n ≡ min (lines + n) 18446744073709551615
lines_are lines zero h = omega (arith, h)
lines_are lines (suc n) h = ap (λ (k : ℕ). min (k + 1) 18446744073709551615) (lines_are lines n h) ∙ omega (arith, h)

pub returns-clause-lines : goal.returns-clause-lines
returns-clause-lines c =
    let all = lines_are c.args.self.now.lines (length c.args.values.now) (omega arith) in
    omega (arith, all, c.saturating_add-self.ensures)
