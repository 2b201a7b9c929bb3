use Rattle.std.proofs.Common.{◌≡◌, ◌+◌, ◌∙◌, ℕ, length, get_or, ap, sym, subst, arith}
use Rattle.sci_net.proofs.Numbered.{numbered_read}
use Rattle.sci_bank.specs.declared.runs.Call.{Call}
use Rattle.sci_store.specs.declared.marks.Mark.{Mark}
use Rattle.sci_store.specs.contracts.store.Store.{the_view}
use Rattle.sci_store.specs.Marks.{idle, mark_at}
use Rattle.sci_store.specs.Store.{Standing}
use Rattle.sci_store.proofs.Choosing.{HasChosen, one_chosen, other_passed}
use Rattle.sci_store.proofs.store.Store.choose_active.Goals as goal
use Rattle.sci_store.proofs.store.Store.choose_active.Goals.{After-index-mark, then-mark, else-mark}

abbrev no_call : Call
no_call = record { slot = 0; block = 0; mask = 0 }

-- the mark that was read
mark_is : (c : After-index-mark) → c.index-mark.result.now ≡ mark_at (the_view c.self.inside).marks (get_or c.args.calls.now c.loop-call.call-index no_call).block
mark_is c =
    let b = (get_or c.args.calls.now c.loop-call.call-index no_call).block in
    let known = c.requires.blocks c.loop-call.call-index no_call c.loop-call-test.true in
    let same = ap (λ (t : Standing). length t.marks) c.loop-call.invariant.same in
    let view = ap (λ (t : Standing). length t.marks) c.self.view_is in
    numbered_read idle c.loop-call.self-inside.marks.items (get_or c.args.calls.now c.loop-call.call-index no_call).block c.index-mark.result.now known.0 (omega (arith, known.1, same, view)) c.index-mark.ensures
    ∙ ap (λ (t : Standing). mark_at t.marks (get_or c.args.calls.now c.loop-call.call-index no_call).block) c.loop-call.invariant.same

pub loop-call-preserved : goal.loop-call-preserved
loop-call-preserved c =
    let at = (goal.at.loop-call-preserved c).After-index-mark in
    let d = get_or c.args.calls.now c.loop-call.call-index no_call in
    let mark = mark_is at in
    let room = ap (λ (t : Standing). length t.chosen) c.self.view_is in
    elim c.if-mark.branch [
      | then-mark w ↦
          subst (λ (n : ℕ). HasChosen c.args.calls.now (the_view c.self.inside) (the_view c.if-mark.self-inside) n (c.loop-call.call-index + 1)) (sym w.count-is)
          (one_chosen no_call c.loop-call.invariant c.loop-call-test.true (the_view c.if-mark.self-inside) (record d { mask = c.index-mark.result.now.mask })
          (ap (λ (m : Mark). m.active) (sym mark) ∙ w.if-mark.true) (ap (λ (m : Mark). record d { mask = m.mask }) mark) (omega (arith, c.requires.room, room)) (ap the_view w.self-inside-is))
      | else-mark w ↦
          subst (λ (n : ℕ). HasChosen c.args.calls.now (the_view c.self.inside) (the_view c.if-mark.self-inside) n (c.loop-call.call-index + 1)) (sym w.count-is)
          (subst (λ (t : Standing). HasChosen c.args.calls.now (the_view c.self.inside) t c.loop-call.count (c.loop-call.call-index + 1)) (sym (ap the_view w.self-inside-is))
          (other_passed no_call c.loop-call.invariant c.loop-call-test.true (ap (λ (m : Mark). m.active) (sym mark) ∙ w.if-mark.false)))
    ]
