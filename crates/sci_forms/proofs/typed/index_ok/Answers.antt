use Rattle.std.proofs.Common.{◌≡◌, ap, ◌∙◌}
use Rattle.sci_forms.specs.declared.form.Form.{Form}
use Rattle.sci_forms.specs.Forms.{by_place, names_element}
use Rattle.sci_forms.proofs.typed.index_ok.Goals as goal

pub returns : goal.returns
returns c =
    let test = names_element c.args.s.now c.args.k in
    c.names_element.ensures ∙ (c.param_at.ensures test ∙ ap (λ (f : Form). by_place test f.params c.args.k) c.form.ensures)
