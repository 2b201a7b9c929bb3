use Rattle.std.proofs.Common.{◌≡◌, sym, ap, ◌∙◌}
use Rattle.sci_forms.specs.declared.form.Form.{Form}
use Rattle.sci_forms.proofs.Places.{truths_of}
use Rattle.sci_forms.proofs.values.params_len_ok.Goals as goal

pub table_len-requires-clause-ins : goal.table_len-requires-clause-ins
table_len-requires-clause-ins c = c.requires.ins (truths_of c.args.kind (sym (ap (λ (f : Form). f.params.count) c.form.ensures) ∙ c.in-Truths.is))

pub table_len-requires-clause-outs : goal.table_len-requires-clause-outs
table_len-requires-clause-outs c = c.requires.outs (truths_of c.args.kind (sym (ap (λ (f : Form). f.params.count) c.form.ensures) ∙ c.in-Truths.is))
