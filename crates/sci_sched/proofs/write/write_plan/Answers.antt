use Rattle.std.proofs.Common.{rules, ◌+◌, ◌<◌, ◌≡◌, drop, length, subst, List, ℕ, get_or, ap, ap₂, sym, ◌∙◌, arith, Vec}
use Rattle.std.proofs.lemmas.List.{length-map}
use Rattle.std.specs.declared.alloc.Global.{Global}
use Rattle.sci_io.specs.Taken.{UnderWay}
use Rattle.sci_io.proofs.Advance.{cut_off, next_front, same_text}
use Rattle.sci_net.specs.declared.Source.TheVariants.{Start}
use Rattle.sci_net.specs.Sources.{sources_of}
use Rattle.sci_reaction.specs.declared.entry.Entry.{Entry}
use Rattle.sci_sched.specs.Plain.{row_of, lists_of}
use Rattle.sci_sched.specs.Text.{row_text, plan_text}
use Rattle.sci_sched.proofs.Steps.{plan-drop}
use Rattle.sci_sched.proofs.write.write_plan.Goals as goal

pub returns-in_err-put_row : goal.returns-in_err-put_row
returns-in_err-put_row g c =
    let i = c.loop-at.at in
    let ss = sources_of c.args.net.now in
    let rows = c.args.plan.now.rows.items in
    let v = c.index.result.now in
    let low : i < length ss = subst (λ m. i < m) c.source_count-at-end.ensures c.loop-at-test.true in
    let long : length rows ≡ length ss = sym (length-map rows (λ (w : Vec Entry Global). row_of w.items)) ∙ c.requires in
    let here : i < length rows = omega (arith, low, long) in
    let due = subst (λ (l : List ℕ). UnderWay (g.S.Sink.state c.args.out.now) (g.S.Sink.state c.loop-at.out) (plan_text ss (lists_of rows)) l) (plan-drop ss rows i Start v low here) c.loop-at.invariant in
    cut_off (row_text (get_or ss i Start) (row_of (get_or rows i v).items)) (plan_text (drop (i + 1) ss) (lists_of (drop (i + 1) rows))) c.put_row.result c.from_residual.result _ _ c.in_err-put_row.was (search rules) due
    (same_text (ap₂ (λ s xs. row_text s (row_of xs)) c.source.ensures (c.deref.ensures.value ∙ ap (λ (w : Vec Entry Global). w.items) c.index.ensures)) c.put_row.ensures)

pub loop-at-preserved : goal.loop-at-preserved
loop-at-preserved g c =
    let i = c.loop-at.at in
    let ss = sources_of c.args.net.now in
    let rows = c.args.plan.now.rows.items in
    let v = c.index.result.now in
    let low : i < length ss = subst (λ m. i < m) c.source_count-at-end.ensures c.loop-at-test.true in
    let long : length rows ≡ length ss = sym (length-map rows (λ (w : Vec Entry Global). row_of w.items)) ∙ c.requires in
    let here : i < length rows = omega (arith, low, long) in
    let due = subst (λ (l : List ℕ). UnderWay (g.S.Sink.state c.args.out.now) (g.S.Sink.state c.loop-at.out) (plan_text ss (lists_of rows)) l) (plan-drop ss rows i Start v low here) c.loop-at.invariant in
    next_front (row_text (get_or ss i Start) (row_of (get_or rows i v).items)) (plan_text (drop (i + 1) ss) (lists_of (drop (i + 1) rows))) c.put_row.result _ c.in_ok-put_row.was due
    (same_text (ap₂ (λ s xs. row_text s (row_of xs)) c.source.ensures (c.deref.ensures.value ∙ ap (λ (w : Vec Entry Global). w.items) c.index.ensures)) c.put_row.ensures)
