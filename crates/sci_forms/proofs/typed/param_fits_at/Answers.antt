use Rattle.std.proofs.Common.{rules, ◌≡◌, ℤ, ap, ◌∙◌, w64, FitsSigned}
use Rattle.std.proofs.lemmas.Int.{to_z-of_z}
use Rattle.sci_base.specs.declared.Ty.{Ty}
use Rattle.sci_base.specs.Lists.{at}
use Rattle.sci_forms.specs.Ports.{port_at, type_of}
use Rattle.sci_forms.specs.Forms.{param_fits}
use Rattle.sci_forms.proofs.typed.param_fits_at.Goals as goal

pub returns : goal.returns
returns c =
    let s = c.args.s.now in
    let k = c.args.k in
    let fits : FitsSigned w64 c.at.result = search rules in
    let ty : c.kind_of_type.result ≡ type_of (port_at s.outs 0) = search rules in
    c.param_fits.ensures
    ∙ (ap (λ (v : ℤ). param_fits s.kind c.kind_of_type.result k v) (to_z-of_z w64 c.at.result fits ∙ c.at.ensures)
    ∙ ap (λ (t : Ty). param_fits s.kind t k (at s.params k)) ty)
