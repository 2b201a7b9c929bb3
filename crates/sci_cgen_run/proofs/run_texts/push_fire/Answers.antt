use Rattle.std.proofs.Common.{arith, pos, not, ap, ◌∙◌}
use Rattle.c_ast.specs.Syntax.{num, bin, element, neg, scalar, cell, set, call, done, next}
use Rattle.c_ast.specs.declared.Op.TheVariants.{Div}
use Rattle.c_ast.specs.View.{statements_of}
use Rattle.c_mean.specs.Texts.{joined}
use Rattle.sci_due.specs.Due.{dates, now}
use Rattle.sci_due.specs.Texts.{stale_at}
use Rattle.sci_program.specs.Names.{clear_name, choose_name}
use Rattle.sci_program.specs.Program.{natural, one, text_where, port_count, chosen_place, react_step, react_deep}
use Rattle.sci_cgen_run.proofs.RunLemmas.{follows, behind}
use Rattle.sci_program.proofs.Sizes.{few_ports}
use Rattle.sci_cgen_run.proofs.run_texts.push_fire.Goals as goal

pub react-requires-clause-few : goal.react-requires-clause-few
react-requires-clause-few c = let few = few_ports c.args.net.now c.well_formed-2.ensures in omega (arith, few, c.port_count.ensures)

pub returns : goal.returns
returns c =
    let date = follows (statements_of c.args.out.now.items) (one (set (scalar now) (element dates (chosen_place (port_count c.args.net.now)))))
    (c.in_ok-push.ensures ∙ ap (λ s. joined (statements_of c.args.out.now.items) (next s done)) c.in_ok-dated.ensures) in
    let free = follows (statements_of c.push.new.out.items) (one (set (cell dates (chosen_place (port_count c.args.net.now))) (neg (num (pos 1)))))
    (c.in_ok-push-2.ensures ∙ ap (λ s. joined (statements_of c.push.new.out.items) (next s done)) c.in_ok-freed.ensures) in
    let stale = follows (statements_of c.push-2.new.out.items)
    (stale_at (port_count c.args.net.now) (bin Div (chosen_place (port_count c.args.net.now)) (natural 16))) c.in_ok-push_stale.ensures in
    let before = follows (statements_of c.push_stale.new.out.items) (text_where (not c.args.own) (one (call clear_name))) c.in_ok-push_before.ensures in
    let react = follows (statements_of c.push_before.new.out.items) (one (react_step react_deep 0 (port_count c.args.net.now)))
    (c.in_ok-push-3.ensures ∙ ap (λ s. joined (statements_of c.push_before.new.out.items) (next s done))
    (c.in_ok-react.ensures ∙ ap (react_step react_deep 0) c.port_count.ensures)) in
    let choose = follows (statements_of c.push-3.new.out.items) (one (call choose_name))
    (c.in_ok-push-4.ensures ∙ ap (λ x. joined (statements_of c.push-3.new.out.items) (next (call x) done)) c.choose.ensures) in
    (behind date (behind free (behind stale (behind before (behind react choose))))).is
