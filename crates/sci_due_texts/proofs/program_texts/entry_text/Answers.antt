use Rattle.std.proofs.Common.{if◌then◌else◌, ap, ◌∙◌}
use Rattle.c_ast.specs.Syntax.{Block, done}
use Rattle.c_mean.specs.Texts.{joined}
use Rattle.sci_due.specs.Due.{keeps_orders, keeps_groups}
use Rattle.sci_due.specs.Texts.{stale_text as due_stale, order_text as due_order}
use Rattle.sci_due_texts.proofs.program_texts.entry_text.Goals as goal

pub returns : goal.returns
returns c =
    let order : Block = if keeps_orders c.args.table then due_order c.args.at else done in
    let stale : Block = if keeps_groups c.args.table then due_stale c.args.at else done in
    c.in_ok-push_all-2.ensures
    ∙ (ap (joined _) c.in_ok-stale_text.ensures
    ∙ ap (λ (b : Block). joined b stale)
    (c.in_ok-push_all.ensures ∙ (ap (joined _) c.in_ok-order_text.ensures ∙ ap (λ (b : Block). joined b order) c.in_ok-out.ensures)))
