use Rattle.std.proofs.Common.{vec_len, sym, ◌∙◌}
use Rattle.std.proofs.lemmas.Bool.{eqb-true}
use Rattle.std.proofs.lemmas.List.{nil_from_length}
use Rattle.sci_sched.proofs.write.is_alone.Goals as goal

pub returns : goal.returns
returns c = λ alone.
    let e = c.args.entry.now in
    nil_from_length e.guards.items (sym e.guards.ok.0 ∙ eqb-true (vec_len e.guards) 0 (sym c.is_empty.ensures ∙ alone))
