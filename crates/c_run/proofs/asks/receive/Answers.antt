use Rattle.std.proofs.Common.{arith, rules, sym, ◌∙◌, refl, []}
use Rattle.std.proofs.lemmas.Int.{to_z-of_z}
use mir.Val.{SFits}
use mir.Syntax.{w64}
use Rattle.c_ast.specs.View.{place_of, exp_of}
use Rattle.c_run.specs.declared.machine.ColumnRest.{ColumnRest}
use Rattle.c_run.proofs.Columns.{received_is}
use Rattle.c_run.proofs.asks.receive.Goals as goal

pub returns : goal.returns
returns c =
    let rest : ColumnRest = record { left = c.in-Some-split_first.rest } in
    let blank : ColumnRest = record { left = record { ref_ptr = (0, 0); now = [] } } in
    let fits : SFits w64 c.in-Some.number = search rules in
    let fits_value : SFits w64 c.in-Some-split_first.value.now = search rules in
    let here = rw (to_z-of_z w64 c.in-Some.number fits) at c.place.ensures in
    let given = rw (to_z-of_z w64 c.in-Some-split_first.value.now fits_value) at (rw c.if-not-give.false at c.give.ensures) in
    received_is (place_of c.args.target.now) (exp_of c.args.column.now) c.args.memory.now c.give.new.memory c.args.columns.now c.in-Some.number c.in-Some-place.i c.in-Some-split_first.value.now rest blank rest
    (sym c.eval.ensures ∙ c.in-Some.is) (sym here ∙ c.in-Some-place.is) (omega arith) c.in-Some-split_first.ensures.cases.0 (sym given) refl
