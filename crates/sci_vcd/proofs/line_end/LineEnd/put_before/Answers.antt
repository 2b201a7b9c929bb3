use Rattle.std.proofs.Common.{◌≤◌, List, ℕ, ◌++◌, length, drop, sym, ap, ◌∙◌, rules}
use Rattle.std.proofs.lemmas.List.{drop-drop, drop-append-le}
use Rattle.sci_vcd.proofs.line_end.LineEnd.put_before.Goals as goal

pub returns-clause-text : goal.returns-clause-text
returns-clause-text c =
    let text = c.self.inside.text in
    let start = c.self.inside.start in
    let behind = drop c.args.end c.args.line.now in
    let long : start ≤ length text = search rules in
    sym (drop-drop start c.array_before-front.result c.array_before-front.new.line)
    ∙ (ap (λ (l : List ℕ). drop start l) c.array_before-front.ensures.text
    ∙ (drop-append-le start text behind long ∙ ap (λ (l : List ℕ). l ++ behind) c.self.view_is))
