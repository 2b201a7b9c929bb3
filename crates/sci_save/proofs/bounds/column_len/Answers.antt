use Rattle.std.proofs.Common.{◌≡◌, ◌≤◌, ◌-◌, ℕ, ℤ, [], length, get_or, sym, ap, ◌∙◌, subst, arith, Vec}
use Rattle.std.specs.declared.alloc.Global.{Global}
use Rattle.sci_net.proofs.Numbered.{numbered_map}
use Rattle.sci_save.proofs.bounds.column_len.Goals as goal

pub returns-in-Some-get-clause-value : goal.returns-in-Some-get-clause-value
returns-in-Some-get-clause-value c =
    let columns = c.args.columns.now in
    let at = c.in-Some.ensures in
    let found = c.in-Some-get.ensures.lookup in
    let values = c.in-Some-get.values.now in
    let is : values ≡ get_or columns (c.args.column - 1) values = subst (λ (k : ℕ). values ≡ get_or columns k values) at.1 found.1 in
    let within : c.args.column ≤ length columns = omega (arith, at.0, at.1, found.3.0) in
    c.len.ensures ∙ values.ok.0 ∙ sym (ap length (numbered_map (λ (v : Vec ℤ Global). v.items) [] columns c.args.column values at.0 within is))
