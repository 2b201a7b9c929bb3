use Rattle.std.proofs.Common.{rules, ◌+◌, drop, subst, List, ℕ, get_or, ap}
use Rattle.sci_io.specs.Taken.{UnderWay}
use Rattle.sci_io.proofs.Advance.{cut_off, next_front, same_text}
use Rattle.sci_reaction.specs.declared.entry.Entry.{Entry}
use Rattle.sci_sched.specs.Plain.{row_of}
use Rattle.sci_reaction.specs.Kept.{entry_of}
use Rattle.sci_sched.specs.Text.{entry_text, entries_text}
use Rattle.sci_sched.proofs.Steps.{entries-drop}
use Rattle.sci_sched.proofs.write.put_each.Goals as goal

pub returns-in_err-put_entry : goal.returns-in_err-put_entry
returns-in_err-put_entry g c =
    let i = c.loop-entry.entry-index in
    let es = c.args.entries.now in
    let d = c.entry-item.result in
    let due = subst (λ (l : List ℕ). UnderWay (g.S.Sink.state c.args.out.now) (g.S.Sink.state c.loop-entry.out) (entries_text (row_of es)) l) (entries-drop es i d c.loop-entry-test.true) c.loop-entry.invariant in
    cut_off (entry_text (entry_of (get_or es i d))) (entries_text (row_of (drop (i + 1) es))) c.put_entry.result c.from_residual.result _ _ c.in_err-put_entry.was (search rules) due
    (same_text (ap (λ (e : Entry). entry_text (entry_of e)) c.entry-item.is) c.put_entry.ensures)

pub loop-entry-preserved : goal.loop-entry-preserved
loop-entry-preserved g c =
    let i = c.loop-entry.entry-index in
    let es = c.args.entries.now in
    let d = c.entry-item.result in
    let due = subst (λ (l : List ℕ). UnderWay (g.S.Sink.state c.args.out.now) (g.S.Sink.state c.loop-entry.out) (entries_text (row_of es)) l) (entries-drop es i d c.loop-entry-test.true) c.loop-entry.invariant in
    next_front (entry_text (entry_of (get_or es i d))) (entries_text (row_of (drop (i + 1) es))) c.put_entry.result _ c.in_ok-put_entry.was due
    (same_text (ap (λ (e : Entry). entry_text (entry_of e)) c.entry-item.is) c.put_entry.ensures)
