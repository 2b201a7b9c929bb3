use Rattle.std.proofs.Common.{w64, rules, ◌-◌, pos, ap, ◌∙◌}
use Rattle.std.proofs.lemmas.Int.{to_z-of_z}
use Rattle.std.proofs.lemmas.Result.{on_ok_weaker}
use Rattle.c_ast.specs.Syntax.{cell}
use Rattle.c_ast.specs.View.{statements_of}
use Rattle.c_mean.specs.Texts.{joined}
use Rattle.sci_due.specs.Due.{dates, orders}
use Rattle.sci_program.specs.Program.{natural, begun_text}
use Rattle.sci_cgen_run.proofs.OutsetLemmas.{set_is, begun_alike, firing_none, firing_some, behind_two}
use Rattle.sci_cgen_run.proofs.outset_texts.push_firing.Goals as goal

pub returns-in_ok-number : goal.returns-in_ok-number
returns-in_ok-number c =
    on_ok_weaker c.push.result (λ e. e ∙ ap (joined (statements_of c.args.out.now.items))
    (set_is _ _ _ _ (c.cell.ensures ∙ ap (λ x. cell x (natural (c.args.source - 1))) c.dates.ensures) c.in_ok-number.ensures
    ∙ firing_none c.args.source c.args.order c.args.firing (rw (to_z-of_z w64 c.args.firing c.ranges.firing) at c.if-firing-lt0.true))) c.push.ensures

pub returns-in_ok-push_begun : goal.returns-in_ok-push_begun
returns-in_ok-push_begun c =
    on_ok_weaker c.push_begun-else-firing-lt0.result (λ e.
    behind_two (begun_text dates (c.args.source - 1) c.args.firing) (begun_text orders (c.args.source - 1) (pos c.args.order)) _ _ _
    (c.in_ok-push_begun.ensures ∙ ap (joined (statements_of c.args.out.now.items)) (begun_alike _ _ _ _ _ c.dates-else-firing-lt0.ensures
    (to_z-of_z w64 c.args.firing c.ranges.firing)))
    (e ∙ ap (joined (statements_of c.push_begun.new.out.items)) (begun_alike _ _ _ _ _ c.orders.ensures
    (to_z-of_z w64 c.from.result (search rules) ∙ c.from.ensures)))
    ∙ ap (joined (statements_of c.args.out.now.items)) (firing_some c.args.source c.args.order c.args.firing
    (rw (to_z-of_z w64 c.args.firing c.ranges.firing) at c.if-firing-lt0.false)))
    c.push_begun-else-firing-lt0.ensures
