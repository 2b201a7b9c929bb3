use Rattle.std.proofs.Common.{◌≡◌, ℕ, ℤ, List, ◌++◌, length, take, ap, ◌∙◌, w64, to_z, of_z, arith}
use Rattle.std.proofs.lemmas.Int.{to_z-of_z}
use Rattle.sci_lines.specs.Lines.{value_line}
use Rattle.sci_lines.proofs.Signs.{written_back}
use Rattle.sci_lines.proofs.lines.Lines.add.Goals as goal

pub returns : goal.returns
returns c =
    let value : to_z w64 (of_z w64 c.args.value) ≡ c.args.value = grind (arith, to_z-of_z) in
    let items = c.self.inside.text.items in
    let new = c.line_at-self-inside.new.text in
    let long : length new ≡ length items = c.line_at-self-inside.auto.text ∙ ap (λ (l : List ℕ). length l) c.deref_mut.ensures.value in
    ap (take c.line_at-self-inside.result) (written_back items new c.self.inside.text.len c.self.inside.text.ok.0 long)
    ∙ c.line_at-self-inside.ensures.text ∙ ap (λ (z : ℤ). take c.self.inside.len c.deref_mut.result.now ++ value_line c.args.head.now z) value
    ∙ ap (λ (l : List ℕ). take c.self.inside.len l ++ value_line c.args.head.now c.args.value) c.deref_mut.ensures.value
    ∙ ap (λ (l : List ℕ). l ++ value_line c.args.head.now c.args.value) c.self.view_is
