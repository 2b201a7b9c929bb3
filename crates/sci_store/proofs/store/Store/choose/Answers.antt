use Rattle.std.proofs.Common.{◌≡◌, ◌∙◌, ◌+◌, ◌-◌, ◌≤◌, ℕ, List, Some, None, length, get_or, set, ap, sym, subst, arith}
use Rattle.std.proofs.lemmas.List.{length-set}
use Rattle.sci_bank.specs.declared.runs.Call.{Call}
use Rattle.sci_reaction.specs.Kept.{entry_of}
use Rattle.sci_store.specs.declared.marks.Mark.{Mark}
use Rattle.sci_store.specs.declared.store.Store.TheInside.{Inside}
use Rattle.sci_store.specs.Entries.{activation}
use Rattle.sci_store.specs.Store.{Standing}
use Rattle.sci_store.specs.Rows.{mark_by}
use Rattle.sci_store.specs.contracts.store.Store.{the_view}
use Rattle.sci_store.proofs.Marking.{AreKnown}
use Rattle.sci_store.proofs.Applying.{IsChosenTo, chosen_none, chosen_some}
use Rattle.sci_store.proofs.store.Store.choose.Goals as goal
use Rattle.sci_store.proofs.store.Store.choose.Goals.{in-Some, in_default}

abbrev no_call : Call
no_call = record { slot = 0; block = 0; mask = 0 }

pub loop-at-preserved : goal.loop-at-preserved
loop-at-preserved c =
    let before = the_view c.self.inside in
    let h : IsChosenTo (the_view c.self.inside).marks c.args.calls.now c.args.entries.now c.loop-at.at c.loop-at.count (the_view c.loop-at.self-inside).chosen (the_view c.loop-at.self-inside).marks =
    record { few = c.loop-at.invariant.few; chosen_is = c.loop-at.invariant.chosen_is; marks_are = c.loop-at.invariant.marks_are } in
    let known : AreKnown (the_view c.self.inside).marks c.args.calls.now = subst (λ (t : Standing). AreKnown t.marks c.args.calls.now) (sym c.self.view_is) c.requires.blocks in
    let room : length c.args.calls.now ≤ length (the_view c.loop-at.self-inside).chosen =
    let a = c.requires.room in
    let b = c.loop-at.invariant.long in
    let d = ap (λ (t : Standing). length t.chosen) c.self.view_is in
    omega (arith, a, b, d) in
    elim c.match-activation.branch [
      | in-Some w ↦
          let call : Call = record (get_or c.args.calls.now c.loop-at.at no_call) { mask = w.in-Some.mask } in
          let some : Some w.in-Some.mask ≡ activation (the_view c.loop-at.self-inside).marks (entry_of c.index-entries-at.result) =
          w.in-Some.ensures ∙ ap (λ (ms : List Mark). activation ms (entry_of c.index-entries-at.result)) c.deref.ensures.value in
          let r = subst (λ (x : Inside). IsChosenTo (the_view c.self.inside).marks c.args.calls.now c.args.entries.now (c.loop-at.at + 1) c.match-activation.count (the_view x).chosen (the_view x).marks)
          (sym w.self-inside-is)
          (subst (λ (i : ℕ). IsChosenTo (the_view c.self.inside).marks c.args.calls.now c.args.entries.now (c.loop-at.at + 1) i
          (set (the_view c.loop-at.self-inside).chosen c.loop-at.count call) (set (the_view c.loop-at.self-inside).marks (call.block - 1) (mark_by call))) (sym w.count-is)
          (chosen_some (the_view c.self.inside).marks c.args.calls.now c.args.entries.now c.requires.one_each known c.requires.apart c.loop-at.at c.loop-at.count
          (the_view c.loop-at.self-inside).chosen (the_view c.loop-at.self-inside).marks h c.loop-at-test.true c.index-entries-at.result c.index-entries-at.is w.in-Some.mask no_call room some)) in
          let now = ap the_view w.self-inside-is in
          record {
            few = r.few;
            chosen_is = r.chosen_is;
            marks_are = r.marks_are;
            long = ap (λ (t : Standing). length t.chosen) now ∙ (length-set (the_view c.loop-at.self-inside).chosen c.loop-at.count call ∙ c.loop-at.invariant.long);
            same = now
                ∙ (ap (λ (t : Standing). record t { marks = set c.loop-at.self-inside.marks.items (call.block - 1) (mark_by call); chosen = set c.loop-at.self-inside.chosen.items c.loop-at.count call }) c.loop-at.invariant.same
                ∙ ap (λ (t : Standing). record before { marks = t.marks; chosen = t.chosen }) (sym now));
          }
      | in_default w ↦
          let none : activation (the_view c.loop-at.self-inside).marks (entry_of c.index-entries-at.result) ≡ None =
          ap (λ (ms : List Mark). activation ms (entry_of c.index-entries-at.result)) (sym c.deref.ensures.value) ∙ sym w.in_default.ensures in
          let r = subst (λ (x : Inside). IsChosenTo (the_view c.self.inside).marks c.args.calls.now c.args.entries.now (c.loop-at.at + 1) c.match-activation.count (the_view x).chosen (the_view x).marks)
          (sym w.self-inside-is)
          (subst (λ (i : ℕ). IsChosenTo (the_view c.self.inside).marks c.args.calls.now c.args.entries.now (c.loop-at.at + 1) i
          (the_view c.loop-at.self-inside).chosen (the_view c.loop-at.self-inside).marks) (sym w.count-is)
          (chosen_none (the_view c.self.inside).marks c.args.calls.now c.args.entries.now c.requires.one_each known c.requires.apart c.loop-at.at c.loop-at.count
          (the_view c.loop-at.self-inside).chosen (the_view c.loop-at.self-inside).marks h c.loop-at-test.true c.index-entries-at.result c.index-entries-at.is none)) in
          let now = ap the_view w.self-inside-is in
          record {
            few = r.few;
            chosen_is = r.chosen_is;
            marks_are = r.marks_are;
            long = ap (λ (t : Standing). length t.chosen) now ∙ c.loop-at.invariant.long;
            same = now ∙ (c.loop-at.invariant.same ∙ ap (λ (t : Standing). record before { marks = t.marks; chosen = t.chosen }) (sym now));
          }
    ]
