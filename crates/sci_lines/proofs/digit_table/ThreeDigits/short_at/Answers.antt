use Rattle.std.proofs.Common.{◌≤◌, List, ℕ, ◌+◌, ◌++◌, length, take, ap, ◌∙◌, rules, arith}
use Rattle.sci_lines.proofs.Paging.{front_put}
use Rattle.sci_lines.specs.Threes.{Spelled}
use Rattle.sci_lines.proofs.digit_table.ThreeDigits.short_at.Goals as goal

pub returns-clause-text : goal.returns-clause-text
returns-clause-text c =
    let old = c.args.text.now in
    let long : c.self.inside.len ≤ length c.self.inside.short = search rules in
    ap (λ (l : List ℕ). take (c.args.at + c.self.inside.len) l) c.array_at.ensures
    ∙ (front_put old c.self.inside.short _ c.args.at c.self.inside.len (omega (arith, c.requires)) long
    ∙ ap (λ (l : List ℕ). take c.args.at old ++ l) (ap (λ (s : Spelled). s.short) c.self.view_is))
