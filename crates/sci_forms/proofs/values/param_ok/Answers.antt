use Rattle.std.proofs.Common.{◌≡◌, sym, ap, ◌∙◌}
use Rattle.sci_forms.specs.declared.form.Form.{Form}
use Rattle.sci_forms.specs.Forms.{by_place, is_param}
use Rattle.sci_forms.proofs.Places.{looks_back, looking_back, one_before}
use Rattle.sci_forms.proofs.values.param_ok.Goals as goal

pub is_param-requires-clause-before : goal.is_param-requires-clause-before
is_param-requires-clause-before c = λ w.
    one_before c.args.kind c.args.k
    (sym (ap (λ (f : Form). by_place looks_back f.params c.args.k) c.form.ensures)
    ∙ (sym (c.param_at.ensures looks_back) ∙ looking_back c.param_at.result w))

pub returns : goal.returns
returns c =
    let test = is_param c.args.n c.args.ps.now c.args.k in
    c.is_param.ensures ∙ (c.param_at.ensures test ∙ ap (λ (f : Form). by_place test f.params c.args.k) c.form.ensures)
