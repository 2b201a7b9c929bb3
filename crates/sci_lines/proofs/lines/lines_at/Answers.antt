use Rattle.std.proofs.Common.{rules, ◌≡◌, ◌+◌, ◌++◌, List, ℕ, ℤ, pos, take, drop, get_or, refl, sym, ap, ◌∙◌, w64, to_z, of_z, arith, append_assoc, append-nil}
use Rattle.std.specs.Prelude.{FitsSigned}
use Rattle.std.proofs.lemmas.Int.{to_z-of_z}
use Rattle.sci_lines.specs.Lines.{value_line, value_lines}
use Rattle.sci_lines.proofs.Paging.{lines_next, lines_over}
use Rattle.sci_lines.proofs.lines.lines_at.Goals as goal

pub loop-at-init : goal.loop-at-init
loop-at-init c = record { text = refl; end = omega arith }

pub loop-at-preserved : goal.loop-at-preserved
loop-at-preserved c =
    let k = c.loop-at.at in
    let fits : FitsSigned w64 (get_or c.args.values.now k (pos 0)) = search rules in
    let value : to_z w64 (of_z w64 (get_or c.args.values.now k (pos 0))) ≡ get_or c.args.values.now k (pos 0) = to_z-of_z w64 (get_or c.args.values.now k (pos 0)) fits in
    let rest = value_lines (drop (k + 1) c.args.heads.now) (drop (k + 1) c.args.values.now) in
    let next = lines_next c.args.heads.now c.args.values.now k c.index-heads-at.result (omega (arith, c.requires.one_each, c.loop-at-test.true)) c.loop-at-test.true c.index-heads-at.is in
    let placed = c.line_at-end.ensures.text ∙ ap (λ (z : ℤ). take c.loop-at.end c.loop-at.text ++ value_line c.index-heads-at.result z) value in
    record {
      text = ap (λ (l : List ℕ). l ++ rest) placed ∙ append_assoc (take c.loop-at.end c.loop-at.text) (value_line c.index-heads-at.result (get_or c.args.values.now k (pos 0))) rest
          ∙ ap (λ (l : List ℕ). take c.loop-at.end c.loop-at.text ++ l) (sym next) ∙ c.loop-at.invariant.text;
      end = omega (arith, c.line_at-end.ensures.end, c.loop-at.invariant.end);
    }

pub returns-clause-text : goal.returns-clause-text
returns-clause-text c =
    let over = lines_over c.args.heads.now c.args.values.now c.loop-at.at (omega (arith, c.requires.one_each, c.loop-at-test.false)) in
    sym (append-nil (take c.loop-at.end c.loop-at.text)) ∙ ap (λ (l : List ℕ). take c.loop-at.end c.loop-at.text ++ l) (sym over) ∙ c.loop-at.invariant.text
