use Rattle.std.proofs.Common.{sym, ◌∙◌}
use Rattle.std.proofs.lemmas.Result.{on_ok_weaker}
use Rattle.c_rules.proofs.Numbering.{entered_there}
use Rattle.c_rules.proofs.names.Names.enter.Goals as goal

pub returns-in-None-clause-entered : goal.returns-in-None-clause-entered
returns-in-None-clause-entered g c = λ q.
    on_ok_weaker c.put.result
    (λ there. entered_there c.args.values.now.items c.args.self.now c.args.name c.in-Some.number c.args.value (sym c.number_of.ensures.value ∙ c.in-Some.is) c.put.new.values.items (sym (rw c.deref.ensures.value at c.value_at.ensures) ∙ c.in-None.is) there c.put.ensures.others q)
    c.put.ensures.there
