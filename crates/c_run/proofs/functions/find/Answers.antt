use Rattle.std.proofs.Common.{◌∙◌, sym}
use Rattle.c_run.proofs.Calls.{latest_same, latest_none, latest_within}
use Rattle.c_run.proofs.functions.find.Goals as goal

pub returns-in-None : goal.returns-in-None
returns-in-None c =
    let none = sym (c.args.functions.now.found c.args.name) ∙ sym (rw c.deref.ensures.value at c.look.ensures) ∙ c.in-None.is in
    record { value = sym (latest_none c.args.name c.args.from c.args.functions.now.routines.items none); within = tt }

pub returns-then-first-from : goal.returns-then-first-from
returns-then-first-from c =
    let first = sym (c.args.functions.now.found c.args.name) ∙ sym (rw c.deref.ensures.value at c.look.ensures) ∙ c.in-Some.is in
    let gs = c.args.functions.now.routines.items in
    record { value = sym (latest_same c.args.name c.args.from c.in-Some.first gs first c.if-first-from.true); within = latest_within c.args.name c.in-Some.first gs first }
