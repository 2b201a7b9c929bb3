use Rattle.std.proofs.Common.{rules, ◌≡◌, ℤ, ap, ◌∙◌, w64, FitsSigned}
use Rattle.std.proofs.lemmas.Int.{to_z-of_z}
use Rattle.sci_forms.specs.declared.form.Form.{Form}
use Rattle.sci_forms.specs.Forms.{by_place, suits}
use Rattle.sci_forms.proofs.typed.param_fits.Goals as goal

pub returns : goal.returns
returns c =
    let test = suits c.args.t c.args.v in
    let fits : FitsSigned w64 c.args.v = search rules in
    c.suits.ensures
    ∙ (ap (λ (v : ℤ). suits c.args.t v c.param_at.result) (to_z-of_z w64 c.args.v fits)
    ∙ (c.param_at.ensures test ∙ ap (λ (f : Form). by_place test f.params c.args.k) c.form.ensures))
